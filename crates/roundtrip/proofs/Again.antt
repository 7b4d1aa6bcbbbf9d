-- What is written of a sound store reads back: line by line, event by event.
use mathlib.Core.Path.{◌≡◌, refl, sym, ap, ◌∙◌, subst}
use mathlib.Core.Logic.{by_cases}
use mathlib.Core.Bool.{true, false}
use mathlib.Core.List.{List, [], ◌∷◌, ◌++◌, append_assoc, append-nil}
use Prim.Native.Nat.{ℕ, zero, suc, ◌+◌, ◌-◌, ◌≤◌, ◌<◌}
use native.Mathlib.Omega.{arith}
use native.Mathlib.Numerals.{add-one}
use native.Mathlib.Decide.{ℕ_discrete, dec_lt}
use lib.ListN.{length, get_or, take, drop, length-append, get_or-eq_default}
use lib.Seq.{drop-append_seam, get_or-take, length-take-le}
use Rattle.model.specs.Lists.{at, eight}
use Rattle.model.specs.Clocks.{EventName, clock_of}
use Rattle.model.specs.Follow.{tallies, event_at}
use Rattle.model.specs.Store.{Store, store_of, fresh_record, full_sizes, clocks_of, held_of, store_refusal, accepted}
use Rattle.model.specs.Agree.{AgreeTo}
use Rattle.model.proofs.Entries.{at_eight, length_eight, same_entries}
use Rattle.model.proofs.Follow.{Follows}
use Rattle.model.proofs.Valid.{at_tallies, follow_prefix}
use Rattle.model.proofs.Total.{tally_bounded}
use Rattle.model.proofs.Sound.{Sound}
use Rattle.store.specs.Outcomes.{Outcome}
use Rattle.store.proofs.Verdicts.{some_tablets, record_passes}
use Rattle.store.proofs.Ready.{tested_sound}
use Rattle.store.proofs.Outcomes.{append_passed}
use Rattle.store.proofs.Theorems.{sound_limits}
use Rattle.store.proofs.Replay.{stored, one_event, nothing_yet, stored_follows, stored_long, may, next_ready, agree_next}
use Rattle.std.specs.Prelude.{Some, Ok}
use Rattle.lines.specs.Numbers.{decimal, number}
use Rattle.lines.specs.Find.{find, first_line, rest_lines, starts_with, value_behind}
use Rattle.lines.specs.Lists.{comma_list, more_entries, listed}
use Rattle.lines.proofs.Decimals.{number_written}
use Rattle.lines.proofs.Parts.{through, first_line_lem, rest_lines_lem, line_length_lem, value_keyed, starts_key}
use Rattle.lines.proofs.Entries.{decimal_lacks, listed_written}
use Rattle.loglines.specs.declared.events.EventLines.{EventLines}
use Rattle.loglines.specs.Keys.{number_line, clock_line, ends_here, tablets_key, tablet_key, clock_key, held_key, events_key}
use Rattle.loglines.specs.Events.{line_bytes, event_lines}
use Rattle.text.specs.Reading.{ReadOutcome, TurnOutcome, turn, read_on, reading}
use Rattle.pieces.specs.Lines.{key_line, list_line}
use Rattle.pieces.proofs.Lengths.{small_take}
use Rattle.writer.specs.Writing.{event_text, text_of}
use Rattle.text.proofs.Turns.{event_said, turn_offered, ending_done, step_end, step_on}
use Rattle.text.proofs.Opening.{fresh_store, reading_goes}
use Rattle.roundtrip.proofs.Back.{key_line_then, clock_text_then, pieces_from, text_from}

-- what has no LF in it

lacks_both : (a b : List ℕ) → find 10 a ≡ length a → find 10 b ≡ length b → find 10 (a ++ b) ≡ length (a ++ b)
lacks_both a b x y = through 10 a b x ∙ ap (λ (k : ℕ). length a + k) y ∙ sym (length-append a b)

more_lacks : (vs : List ℕ) → find 10 (more_entries vs) ≡ length (more_entries vs)
more_lacks [] = refl
more_lacks (v ∷ vs) =
    ap suc (lacks_both (decimal v) (more_entries vs) (decimal_lacks 10 v (omega arith)) (more_lacks vs))

list_lacks : (vs : List ℕ) → find 10 (comma_list vs) ≡ length (comma_list vs)
list_lacks [] = refl
list_lacks (v ∷ vs) = lacks_both (decimal v) (more_entries vs) (decimal_lacks 10 v (omega arith)) (more_lacks vs)

-- a number's line that is written

module _ (key : List ℕ) (free : find 10 key ≡ length key) (v : ℕ) (rest : List ℕ) where
  abbrev line : List ℕ
  line = key ++ decimal v

  lacks : find 10 line ≡ length line
  lacks = lacks_both key (decimal v) free (decimal_lacks 10 v (omega arith))

  key_first : first_line (key_line key v ++ rest) ≡ line
  key_first = ap first_line (key_line_then key v rest) ∙ first_line_lem line rest lacks

  pub number_read : (limit : ℕ) → v ≤ limit → number_line key limit (key_line key v ++ rest) ≡ Some v
  unfolding number_line
  number_read limit h =
      ap (λ (l : List ℕ). number limit (value_behind key l)) key_first
      ∙ ap (number limit) (value_keyed key (decimal v))
      ∙ number_written limit v h

  pub number_rest : rest_lines (key_line key v ++ rest) ≡ rest
  number_rest = ap rest_lines (key_line_then key v rest) ∙ rest_lines_lem line rest lacks

  pub number_bytes : line_bytes (key_line key v ++ rest) ≡ length (key_line key v)
  unfolding key_line
  number_bytes =
      ap line_bytes (key_line_then key v rest) ∙ ap (λ (k : ℕ). k + 1) (line_length_lem line rest lacks)
      ∙ sym (ap length (sym (append_assoc key (decimal v) (10 ∷ []))) ∙ length-append line (10 ∷ []))

  pub key_starts : (other : List ℕ) → starts_with other (first_line (key_line key v ++ rest)) ≡ starts_with other line
  key_starts other = ap (starts_with other) key_first

-- a clock's line that is written

module _ (vs rest : List ℕ) where
  abbrev list : List ℕ
  list = clock_key ++ comma_list vs

  list_free : find 10 list ≡ length list
  list_free = lacks_both clock_key (comma_list vs) refl (list_lacks vs)

  pub clock_read : (n : ℕ) → clock_line n (list_line clock_key vs ++ rest) ≡ listed n (comma_list vs)
  unfolding clock_line
  clock_read n =
      ap (λ (l : List ℕ). listed n (value_behind clock_key l)) (ap first_line (clock_text_then vs rest) ∙ first_line_lem list rest list_free)
      ∙ ap (listed n) (value_keyed clock_key (comma_list vs))

  pub clock_rest : rest_lines (list_line clock_key vs ++ rest) ≡ rest
  clock_rest = ap rest_lines (clock_text_then vs rest) ∙ rest_lines_lem list rest list_free

  pub clock_bytes : line_bytes (list_line clock_key vs ++ rest) ≡ length (list_line clock_key vs)
  unfolding list_line
  clock_bytes =
      ap line_bytes (clock_text_then vs rest) ∙ ap (λ (k : ℕ). k + 1) (line_length_lem list rest list_free)
      ∙ sym (ap length (sym (append_assoc clock_key (comma_list vs) (10 ∷ []))) ∙ length-append list (10 ∷ []))

listed_take : (n : ℕ) (l : List ℕ) → 1 ≤ n → n ≤ 8 → n ≤ length l → ((i : ℕ) → i < n → get_or l i 0 ≤ 255) → listed n (comma_list (take n l)) ≡ Some (eight (at (take n l)))
listed_take zero l some most long h = let no : ⊥ = omega arith in absurd no
listed_take (suc n) [] some most long h = let no : ⊥ = omega arith in absurd no
listed_take (suc n) (x ∷ xs) some most long h =
    let e : length (take n xs) ≡ n = length-take-le n xs (omega arith) in
    ap (λ (k : ℕ). listed (suc k) (comma_list (x ∷ take n xs))) (sym e)
    ∙ listed_written x (take n xs) (omega arith) (small_take (suc n) (x ∷ xs) h)

-- an event of a sound store
module _ (s : Store) (none : store_refusal s ≡ 0) (fits : (q : ℕ) → q < s.events → held_of s (event_at s.order q) ≤ 65535) where
  snd : Sound s
  snd = tested_sound s none

  abbrev n : ℕ
  n = s.tablets

  module _ (q : ℕ) (inside : q < s.events) where
    abbrev name : EventName
    name = event_at s.order q

    abbrev clock : List ℕ
    clock = clock_of (clocks_of s) name

    follows : Follows n (clocks_of s) (tallies s.order q) (get_or s.order q 0) clock
    follows = stored_follows s none q inside

    long : length clock ≡ 8
    long = stored_long s none q inside

    own_low : get_or s.order q 0 - 1 < n
    own_low = omega (arith, follows.positive, follows.listed)

    entry_low : (i : ℕ) → i < 8 → get_or clock i 0 ≤ 255
    entry_low i h =
        by_cases (ℕ_discrete i (get_or s.order q 0 - 1))
        (λ e. omega (arith, ap (at clock) e, follows.own, follows.room))
        (λ other. omega (arith, follows.others i h other, at_tallies s.order q i h, tally_bounded n snd.narrow (clocks_of s) s.order q (follow_prefix n (clocks_of s) s.order q s.events (omega arith) snd.follow) i))

    all_entries : eight (at (take n clock)) ≡ clock
    all_entries =
        same_entries (eight (at (take n clock))) clock (length_eight (at (take n clock))) long
        (λ i h. at_eight (at (take n clock)) i h
        ∙ by_cases (dec_lt i n) (λ low. get_or-take n clock i 0 low)
        (λ high. get_or-eq_default (take n clock) 0 (omega (arith, length-take-le n clock (omega (arith, long, snd.narrow))))
        ∙ sym (follows.above i h (omega (arith, own_low)) (omega arith))))

    -- the bytes before the last of its lines
    abbrev before_held : ℕ
    before_held = length (key_line tablet_key (get_or s.order q 0)) + length (list_line clock_key (take n clock))

    pub event_read : (rest : List ℕ) → event_lines n (event_text s q ++ rest) ≡ Ok (record { before = before_held; used = length (event_text s q); event = stored s q })
    unfolding event_text
    event_read rest =
        let one = key_line tablet_key (get_or s.order q 0) in
        let two = list_line clock_key (take n clock) in
        let three = key_line held_key (held_of s name) in
        let parts : (one ++ (two ++ three)) ++ rest ≡ one ++ (two ++ (three ++ rest)) = append_assoc one (two ++ three) rest ∙ ap (λ (l : List ℕ). one ++ l) (append_assoc two three rest) in
        let text = one ++ (two ++ (three ++ rest)) in
        let second : rest_lines text ≡ two ++ (three ++ rest) = number_rest tablet_key refl (get_or s.order q 0) (two ++ (three ++ rest)) in
        let third : rest_lines (rest_lines text) ≡ three ++ rest = ap rest_lines second ∙ clock_rest (take n clock) (three ++ rest) in
        let entries : clock_line n (rest_lines text) ≡ Some clock = ap (clock_line n) second ∙ clock_read (take n clock) (three ++ rest) n ∙ listed_take n clock snd.some snd.narrow (omega (arith, long, snd.narrow)) (λ i h. entry_low i (omega (arith, snd.narrow))) ∙ ap Some all_entries in
        let said = event_said n text (get_or s.order q 0) clock (held_of s name)
        (number_read tablet_key refl (get_or s.order q 0) (two ++ (three ++ rest)) 255 (omega (arith, follows.listed, snd.narrow)))
        entries
        (ap (number_line held_key 65535) third ∙ number_read held_key refl (held_of s name) rest 65535 (fits q inside)) in
        let before : line_bytes text + line_bytes (rest_lines text) ≡ before_held =
        omega (arith, number_bytes tablet_key refl (get_or s.order q 0) (two ++ (three ++ rest)), ap line_bytes second ∙ clock_bytes (take n clock) (three ++ rest)) in
        let bytes : line_bytes text + line_bytes (rest_lines text) + line_bytes (rest_lines (rest_lines text)) ≡ length (one ++ (two ++ three)) =
        omega (arith, before, ap line_bytes third ∙ number_bytes held_key refl (held_of s name) rest, length-append one (two ++ three), length-append two three) in
        ap (event_lines n) parts ∙ said
        ∙ (λ i. Ok (record { before = before i; used = bytes i; event = record { tablet = record { 0 = get_or s.order q 0 }; clock = clock; held = held_of s name } }))

    pub event_goes_on : (rest : List ℕ) → ends_here (event_text s q ++ rest) ≡ false
    unfolding event_text ends_here
    event_goes_on rest =
        let one = key_line tablet_key (get_or s.order q 0) in
        let more = list_line clock_key (take n clock) ++ key_line held_key (held_of s name) in
        ap (λ (l : List ℕ). starts_with events_key (first_line l)) (append_assoc one more rest)
        ∙ key_starts tablet_key refl (get_or s.order q 0) (more ++ rest) events_key

  -- the same offered to a store that agrees so far
  module _ (q : ℕ) (inside : q < s.events) (r : Store) (ready : store_refusal r ≡ 0) (at-q : r.events ≡ q) (agree : AgreeTo q s r) where
    pub turn_is : (rest : List ℕ) → turn r (event_text s q ++ rest) ≡ record { refusal = 0; line = 2; used = length (event_text s q); store = accepted r (stored s q) }
    turn_is rest =
        let e : EventLines = record { before = before_held q inside; used = length (event_text s q); event = stored s q } in
        let said : event_lines r.tablets (event_text s q ++ rest) ≡ Ok e = ap (λ (k : ℕ). event_lines k (event_text s q ++ rest)) (sym agree.tablets) ∙ event_read q inside rest in
        turn_offered r (event_text s q ++ rest) e said
        ∙ ap (λ (o : Outcome). record { refusal = o.refusal; line = 2; used = length (event_text s q); store = o.store }) (append_passed r (stored s q) (may s none q inside r ready at-q agree))

  -- the text from a position on
  record ReadsTo (o : ReadOutcome) : Type 0 where
    passed : o.refusal ≡ 0
    line : o.line ≡ 0
    events : o.store.events ≡ s.events
    agree : AgreeTo s.events s o.store

  ends_now : (r : Store) (line : ℕ) → store_refusal r ≡ 0 → r.events ≡ s.events → AgreeTo s.events s r → ReadsTo (read_on r line (key_line events_key s.events))
  unfolding ends_here
  ends_now r line ready all agree =
      let text = key_line events_key s.events in
      let whole : text ++ [] ≡ text = append-nil text in
      let few = (sound_limits r ready).0 in
      let here : ends_here text ≡ true = ap (λ (l : List ℕ). starts_with events_key (first_line l)) (sym whole) ∙ key_starts events_key refl s.events [] events_key ∙ starts_key events_key (decimal s.events) in
      let is : number_line events_key 65535 text ≡ Some s.events = ap (number_line events_key 65535) (sym whole) ∙ number_read events_key refl s.events [] 65535 (omega arith) in
      let bytes : line_bytes text ≡ length text = ap line_bytes (sym whole) ∙ number_bytes events_key refl s.events [] in
      let e = step_end r line text few here ∙ ending_done r line text s.events is (sym all) (omega arith) in
      subst ReadsTo (sym e) (record { passed = refl; line = refl; events = all; agree = agree })

  reads_from : (left q : ℕ) (r : Store) (line : ℕ) → q + left ≡ s.events → store_refusal r ≡ 0 → r.events ≡ q → AgreeTo q s r → ReadsTo (read_on r line (pieces_from s left q))
  reads_from zero q r line total ready at-q agree =
      let end : q ≡ s.events = omega arith in
      ends_now r line ready (at-q ∙ end) (subst (λ (k : ℕ). AgreeTo k s r) end agree)
  reads_from (suc left) q r line total ready at-q agree =
      let inside : q < s.events = omega arith in
      let rest = pieces_from s left (suc q) in
      let text = event_text s q ++ rest in
      let is = turn_is q inside r ready at-q agree rest in
      let few = (sound_limits r ready).0 in
      let more = ap (λ (t : TurnOutcome). t.store.events) is ∙ one_event r (stored s q) in
      let e = step_on r line text few (event_goes_on q inside rest) (ap (λ (t : TurnOutcome). t.refusal) is) more
      ∙ ap (λ (t : TurnOutcome). read_on t.store (line + 3) (drop t.used text)) is
      ∙ ap (read_on (accepted r (stored s q)) (line + 3)) (drop-append_seam (event_text s q) rest) in
      subst ReadsTo (sym e)
      (reads_from left (suc q) (accepted r (stored s q)) (line + 3) (omega arith) (next_ready s none q inside r ready at-q agree) (one_event r (stored s q) ∙ ap (λ (k : ℕ). k + 1) at-q ∙ add-one q) (agree_next s none q inside r ready at-q agree))

  module _ (clocks held order : List ℕ) (full : full_sizes clocks held order ≡ true) where
    written_reads : ReadsTo (reading (text_of s) clocks held order)
    written_reads =
        let fresh = store_of (fresh_record n) clocks held order in
        let width = record_passes (fresh_record n) (some_tablets n snd.some snd.narrow) in
        let rest = pieces_from s s.events 0 in
        let whole = text_from s in
        let is : number_line tablets_key 255 (text_of s) ≡ Some n = ap (number_line tablets_key 255) whole ∙ number_read tablets_key refl n rest 255 (omega (arith, snd.narrow)) in
        let after : rest_lines (text_of s) ≡ rest = ap rest_lines whole ∙ number_rest tablets_key refl n rest in
        let e = reading_goes (text_of s) clocks held order full n is width ∙ ap (read_on fresh 2) after in
        subst ReadsTo (sym e)
        (reads_from s.events 0 fresh 2 (omega arith) (fresh_store clocks held order n width full).refusal refl (nothing_yet s fresh refl))

    pub written_again : ((reading (text_of s) clocks held order).refusal ≡ 0) × ((reading (text_of s) clocks held order).store.events ≡ s.events) × AgreeTo s.events s (reading (text_of s) clocks held order).store
    written_again = (written_reads.passed, written_reads.events, written_reads.agree)
