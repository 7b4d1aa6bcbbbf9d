-- No second outcome satisfies a contract: the number, and the lent buffers at exit, are fixed by what the calls promise.
use mathlib.Core.Path.{◌≡◌, sym, ap, ◌∙◌}
use mathlib.Core.List.{List}
use Prim.Native.Nat.{ℕ}
use Rattle.cuts.specs.Outcomes.{counting}
use Rattle.cuts.specs.Listing.{listing, fresh}
use Rattle.report.specs.Report.{reporting}
use Rattle.exports.specs.Calls.{store_from, Sent, sent, sent_of}

pub chongyeori_count_unique : (tablets events : ℕ) (clocks held order : List ℕ) (position a b : ℕ) → a ≡ (counting (store_from tablets events clocks held order) position).count → b ≡ (counting (store_from tablets events clocks held order) position).count → a ≡ b
chongyeori_count_unique tablets events clocks held order position a b p q = p ∙ sym q

pub chongyeori_list_unique : (tablets events : ℕ) (clocks held order : List ℕ) (position : ℕ) (out : List ℕ) (a b : ℕ) (output bytes : List ℕ) → a ≡ (listing (store_from tablets events clocks held order) position fresh out).count → output ≡ (listing (store_from tablets events clocks held order) position fresh out).output → b ≡ (listing (store_from tablets events clocks held order) position fresh out).count → bytes ≡ (listing (store_from tablets events clocks held order) position fresh out).output → (a ≡ b) × (output ≡ bytes)
chongyeori_list_unique tablets events clocks held order position out a b output bytes p o q u = (p ∙ sym q, o ∙ sym u)

pub chongyeori_report_unique : (input clocks held order out : List ℕ) (r s : ℕ) (o c h d exit bytes numbers tablets : List ℕ) → sent r o c h d ≡ sent_of (reporting input clocks held order out) → sent s exit bytes numbers tablets ≡ sent_of (reporting input clocks held order out) → (r ≡ s) × (o ≡ exit) × (c ≡ bytes) × (h ≡ numbers) × (d ≡ tablets)
chongyeori_report_unique input clocks held order out r s o c h d exit bytes numbers tablets p q =
    let same = p ∙ sym q in (
      ap (λ (x : Sent). x.length) same,
      ap (λ (x : Sent). x.output) same,
      ap (λ (x : Sent). x.clocks) same,
      ap (λ (x : Sent). x.held) same,
      ap (λ (x : Sent). x.order) same,
    )
