-- The way back: a line that was read is the line that would be written, and so is the whole text.
use mathlib.Core.Path.{◌≡◌, refl, sym, ap, ap₂, ◌∙◌, subst}
use mathlib.Core.Logic.{◌≢◌, by_cases}
use mathlib.Core.Bool.{Bool, true, false, cond}
use mathlib.Core.List.{List, ◌∷◌, ◌++◌, append_assoc, append-nil}
use Prim.Native.Nat.{ℕ, zero, suc, ◌+◌, ◌-◌, ◌≤◌, ◌<◌}
use native.Mathlib.Omega.{arith}
use native.Mathlib.Numerals.{add-one}
use native.Mathlib.Decide.{ℕ_discrete, dec_le, dec_lt}
use borrow.Author.Tests.{eqb-true, eqb-false}
use lib.Dec.{eqb}
use lib.ListN.{length, get_or, take, drop, drop_of_length-le}
use lib.Seq.{drop-drop, get_or-set_same, ext_get_or, length-take-le, get_or-take}
use Rattle.model.specs.declared.Event.{Event}
use Rattle.model.specs.Lists.{at, eight}
use Rattle.model.specs.Clocks.{clock_of}
use Rattle.model.specs.Follow.{tallies, event_at}
use Rattle.model.specs.Store.{Store, store_of, fresh_record, full_sizes, clocks_of, held_of, record_refusal, store_refusal, accepted, event_refusal}
use Rattle.model.specs.Cuts.{Contains}
use Rattle.model.specs.Agree.{AgreeTo}
use Rattle.model.proofs.Entries.{at_eight, length_eight}
use Rattle.model.proofs.Sound.{event_contained}
use Rattle.model.proofs.Agree.{event_same, agree_self}
use Rattle.model.proofs.Accepted.{room_for_one, accepted_agrees, event_written, clock_stored, held_stored, still_contained}
use Rattle.store.proofs.Ready.{tested_sound, tested_full}
use Rattle.store.proofs.Theorems.{accepted_stays_sound}
use Rattle.std.specs.Prelude.{Option, Some, None, Ok}
use Rattle.lines.specs.Numbers.{decimal}
use Rattle.lines.specs.Find.{first_line, rest_lines, value_behind}
use Rattle.lines.specs.Lists.{comma_list}
use Rattle.lines.proofs.Decimals.{number_back}
use Rattle.lines.proofs.Parts.{line_parted, line_keyed, value_some}
use Rattle.lines.proofs.Entries.{listed_back, back_filled}
use Rattle.loglines.specs.declared.events.EventLines.{EventLines}
use Rattle.loglines.specs.Keys.{number_line, clock_line, ends_here, tablets_key, tablet_key, clock_key, held_key, events_key}
use Rattle.loglines.specs.Events.{line_bytes, event_lines}
use Rattle.text.specs.Reading.{ReadOutcome, refused, ending, turn, read_from, read_on, reading}
use Rattle.pieces.specs.Lines.{key_line, list_line}
use Rattle.writer.specs.Writing.{event_text, pieces_to, text_of}
use Rattle.loglines.proofs.Lines.{number_filled}
use Rattle.text.proofs.Turns.{EventBack, event_back, TurnPassed, turn_passed, ending_fault, ending_other, ending_more, ending_done}
use Rattle.text.proofs.Opening.{fresh_store, reading_short, reading_faulty, reading_refused, reading_goes}
use Rattle.writer.proofs.Pieces.{piece_first, piece_event, piece_last}

-- lines, with what follows them

pub key_line_then : (key : List ℕ) (v : ℕ) (rest : List ℕ) → key_line key v ++ rest ≡ (key ++ decimal v) ++ (10 ∷ rest)
unfolding key_line
key_line_then key v rest = simp (append_assoc)

pub clock_text_then : (vs rest : List ℕ) → list_line clock_key vs ++ rest ≡ (clock_key ++ comma_list vs) ++ (10 ∷ rest)
unfolding list_line
clock_text_then vs rest = simp (append_assoc)

pub number_line_back : (key : List ℕ) (limit : ℕ) (text : List ℕ) (v : ℕ) → number_line key limit text ≡ Some v → text ≡ key_line key v ++ rest_lines text
unfolding number_line
number_line_back key limit text v is =
    let value = value_behind key (first_line text) in
    let filled = number_filled limit value v is in
    sym (line_parted text (value_some key (first_line text) filled))
    ∙ ap (λ (l : List ℕ). l ++ (10 ∷ rest_lines text)) (sym (line_keyed key (first_line text) filled) ∙ ap (λ (l : List ℕ). key ++ l) (number_back limit value v is))
    ∙ sym (key_line_then key v (rest_lines text))

pub record ClockBack (n : ℕ) (text clock : List ℕ) : Type 0 where
  pub entries : List ℕ
  pub long : length entries ≡ n
  pub most : n ≤ 8
  pub values : clock ≡ eight (at entries)
  pub bytes : text ≡ list_line clock_key entries ++ rest_lines text

pub clock_line_back : (n : ℕ) (text clock : List ℕ) → clock_line n text ≡ Some clock → ClockBack n text clock
unfolding clock_line
clock_line_back n text clock is =
    let value = value_behind clock_key (first_line text) in
    let l = listed_back n value clock is in
    let filled = back_filled n value l.listed_values l.back in
    record {
      entries = l.listed_values;
      long = l.back.long;
      most = l.most;
      values = l.values_are;
      bytes = sym (line_parted text (value_some clock_key (first_line text) filled))
          ∙ ap (λ (x : List ℕ). x ++ (10 ∷ rest_lines text)) (sym (line_keyed clock_key (first_line text) filled) ∙ ap (λ (x : List ℕ). clock_key ++ x) l.back.bytes)
          ∙ sym (clock_text_then l.listed_values (rest_lines text));
    }

-- the first entries of eight are the ones that were listed
first_entries : (n : ℕ) (vs : List ℕ) → length vs ≡ n → n ≤ 8 → take n (eight (at vs)) ≡ vs
first_entries n vs long most =
    let same : length (take n (eight (at vs))) ≡ n = length-take-le n (eight (at vs)) (omega (arith, length_eight (at vs))) in
    ext_get_or 0 (take n (eight (at vs))) vs (same ∙ sym long)
    (λ i h. get_or-take n (eight (at vs)) i 0 (omega arith) ∙ at_eight (at vs) i (omega arith))

-- the three lines of an event that was read
module _ (n : ℕ) (text : List ℕ) (b : EventBack n text) where
  abbrev second : List ℕ
  second = rest_lines text

  abbrev third : List ℕ
  third = rest_lines (rest_lines text)

  read_clock : ClockBack n second b.clock
  read_clock = clock_line_back n second b.clock b.clock_is

  pub event_long : length b.clock ≡ 8
  event_long = ap length read_clock.values ∙ length_eight (at read_clock.entries)

  pub lines_back : text ≡ (key_line tablet_key b.tablet ++ (list_line clock_key (take n b.clock) ++ key_line held_key b.held)) ++ rest_lines third
  lines_back =
      let c = read_clock in
      let entries : take n b.clock ≡ c.entries = ap (take n) c.values ∙ first_entries n c.entries c.long c.most in
      let one = key_line tablet_key b.tablet in
      let two = list_line clock_key c.entries in
      let three = key_line held_key b.held in
      number_line_back tablet_key 255 text b.tablet b.tablet_is
      ∙ ap (λ (l : List ℕ). one ++ l) (c.bytes ∙ ap (λ (l : List ℕ). two ++ l) (number_line_back held_key 65535 third b.held b.held_is))
      ∙ ap (λ (l : List ℕ). one ++ l) (sym (append_assoc two three (rest_lines third)))
      ∙ sym (append_assoc one (two ++ three) (rest_lines third))
      ∙ ap (λ (l : List ℕ). (one ++ (list_line clock_key l ++ three)) ++ rest_lines third) (sym entries)

  -- the same of the lines that are known to give it
  module _ (e : EventLines) (is : event_lines n text ≡ Ok e) where
    pub lines_are : e ≡ record { before = line_bytes text + line_bytes second; used = line_bytes text + line_bytes second + line_bytes third; event = record { tablet = record { 0 = b.tablet }; clock = b.clock; held = b.held } }
    lines_are = cc (is, b.is)

    pub rest_back : drop e.used text ≡ rest_lines third
    rest_back =
        ap (λ (l : EventLines). drop l.used text) lines_are
        ∙ sym (drop-drop (line_bytes third) (line_bytes text + line_bytes second) text)
        ∙ ap (drop (line_bytes third)) (sym (drop-drop (line_bytes second) (line_bytes text) text))

-- the pieces from a position on

abbrev pub pieces_from : Store → ℕ → ℕ → List ℕ
pieces_from s zero q = key_line events_key s.events
pieces_from s (suc left) q = event_text s q ++ pieces_from s left (suc q)

joined : (s : Store) (left p : ℕ) → p + left ≡ s.events → pieces_to s p ++ pieces_from s left p ≡ pieces_to s (s.events + 1)
joined s zero p e =
    let last : suc p ≢ 0 = omega arith in
    let end : suc p ≡ s.events + 1 = omega arith in
    ap (λ (l : List ℕ). pieces_to s p ++ l) (sym (piece_last s (suc p) last (omega arith)))
    ∙ ap (pieces_to s) end
joined s (suc left) p e =
    let some : suc p ≢ 0 = omega arith in
    let there : suc p - 1 ≡ p = omega arith in
    sym (append_assoc (pieces_to s p) (event_text s p) (pieces_from s left (suc p)))
    ∙ ap (λ (l : List ℕ). (pieces_to s p ++ l) ++ pieces_from s left (suc p)) (sym (piece_event s (suc p) some (omega arith) ∙ ap (event_text s) there))
    ∙ joined s left (suc p) (omega arith)

pub text_from : (s : Store) → text_of s ≡ key_line tablets_key s.tablets ++ pieces_from s s.events 0
unfolding text_of
text_from s =
    sym (joined s s.events 0 (omega arith))
    ∙ ap (λ (l : List ℕ). l ++ pieces_from s s.events 0) (piece_first s 0 refl)

-- what is written of an event depends on the first events alone
event_text_same : (r f : Store) (q : ℕ) → AgreeTo (suc q) r f → Contains (tallies r.order (suc q)) (event_at r.order q) → event_text r q ≡ event_text f q
unfolding event_text
event_text_same r f q agree there =
    let name : event_at r.order q ≡ event_at f.order q = event_same r.order f.order q agree.order in
    let byte = agree.order q (omega arith) in
    let clock : take r.tablets (clock_of (clocks_of r) (event_at r.order q)) ≡ take f.tablets (clock_of (clocks_of f) (event_at f.order q)) =
    ap₂ take agree.tablets (agree.clocks (event_at r.order q) there ∙ ap (clock_of (clocks_of f)) name) in
    let held : held_of r (event_at r.order q) ≡ held_of f (event_at f.order q) = agree.held (event_at r.order q) there ∙ ap (held_of f) name in
    λ i. key_line tablet_key (byte i) ++ (list_line clock_key (clock i) ++ key_line held_key (held i))

-- the last line that was read
module _ (s : Store) (line : ℕ) (text : List ℕ) (none : (ending s line text).refusal ≡ 0) where
  never : (k l : ℕ) → 1 ≤ k → ending s line text ≡ refused k l s → ⊥
  never k l some e = omega (arith, ap (λ (o : ReadOutcome). o.refusal) e)

  by_rest : (v : ℕ) → number_line events_key 65535 text ≡ Some v → v ≡ s.events → Dec (line_bytes text < length text) → ((ending s line text).store ≡ s) × (text ≡ key_line events_key s.events)
  by_rest v is same (yes more) = absurd (never 12 (line + 1) (omega arith) (ending_more s line text v is same more))
  by_rest v is same (no all) =
      let end : length text ≤ line_bytes text = omega arith in (
        ap (λ (o : ReadOutcome). o.store) (ending_done s line text v is same end),
        number_line_back events_key 65535 text v is
            ∙ ap (λ (l : List ℕ). key_line events_key v ++ l) (drop_of_length-le text end)
            ∙ append-nil (key_line events_key v)
            ∙ ap (key_line events_key) same,
      )

  by_count : (v : ℕ) → number_line events_key 65535 text ≡ Some v → Dec (v ≡ s.events) → ((ending s line text).store ≡ s) × (text ≡ key_line events_key s.events)
  by_count v is (yes same) = by_rest v is same (dec_lt (line_bytes text) (length text))
  by_count v is (no other) = absurd (never 12 line (omega arith) (ending_other s line text v is other))

  by_number : (x : Option ℕ) → number_line events_key 65535 text ≡ x → ((ending s line text).store ≡ s) × (text ≡ key_line events_key s.events)
  by_number (Some v) is = by_count v is (ℕ_discrete v s.events)
  by_number None is = absurd (never 12 line (omega arith) (ending_fault s line text is))

  ending_back : ((ending s line text).store ≡ s) × (text ≡ key_line events_key s.events)
  ending_back = by_number (number_line events_key 65535 text) refl

-- an event that was accepted is written as it was read
accepted_text : (s : Store) (e : Event) → store_refusal s ≡ 0 → length e.clock ≡ 8 → event_refusal s e ≡ 0 → event_text (accepted s e) s.events ≡ key_line tablet_key e.tablet.0 ++ (list_line clock_key (take s.tablets e.clock) ++ key_line held_key e.held)
unfolding event_text accepted
accepted_text s e none long may =
    let snd = tested_sound s none in
    let full = tested_full s none in
    let room = room_for_one s snd full e long may in
    let byte : get_or (accepted s e).order s.events 0 ≡ e.tablet.0 = get_or-set_same s.order s.events e.tablet.0 0 (omega (arith, room, full.order)) in
    let name = event_written s snd full e long may in
    let clock : clock_of (clocks_of (accepted s e)) (event_at (accepted s e).order s.events) ≡ e.clock = ap (clock_of (clocks_of (accepted s e))) name ∙ clock_stored s snd full e long may in
    let held : held_of (accepted s e) (event_at (accepted s e).order s.events) ≡ e.held = ap (held_of (accepted s e)) name ∙ held_stored s snd full e long may in
    λ i. key_line tablet_key (byte i) ++ (list_line clock_key (take s.tablets (clock i)) ++ key_line held_key (held i))

-- what was read, told by the store that it left
pub record ReadBack (r : Store) (text : List ℕ) (f : Store) : Type 0 where
  pub sound : store_refusal f ≡ 0
  pub agree : AgreeTo r.events r f
  pub left : ℕ
  pub total : r.events + left ≡ f.events
  pub bytes : text ≡ pieces_from f left r.events

-- one event before what was read already
module _ (r : Store) (none : store_refusal r ≡ 0) (text : List ℕ) (p : TurnPassed r text) where
  abbrev n : ℕ
  n = r.tablets

  abbrev e : Event
  e = p.lines.event

  b : EventBack n text
  b = event_back n text p.lines p.whole

  abbrev rest : List ℕ
  rest = drop p.lines.used text

  same : p.lines ≡ record { before = line_bytes text + line_bytes (rest_lines text); used = line_bytes text + line_bytes (rest_lines text) + line_bytes (rest_lines (rest_lines text)); event = record { tablet = record { 0 = b.tablet }; clock = b.clock; held = b.held } }
  same = lines_are n text b p.lines p.whole

  long : length e.clock ≡ 8
  long = ap (λ (l : EventLines). length l.event.clock) same ∙ event_long n text b

  pub next_sound : store_refusal (accepted r e) ≡ 0
  next_sound = accepted_stays_sound r e long none p.may

  read_lines : text ≡ event_text (accepted r e) r.events ++ rest
  read_lines =
      lines_back n text b
      ∙ ap (λ (l : List ℕ). (key_line tablet_key b.tablet ++ (list_line clock_key (take n b.clock) ++ key_line held_key b.held)) ++ l) (sym (rest_back n text b p.lines p.whole))
      ∙ ap (λ (l : EventLines). (key_line tablet_key l.event.tablet.0 ++ (list_line clock_key (take n l.event.clock) ++ key_line held_key l.event.held)) ++ rest) (sym same)
      ∙ ap (λ (l : List ℕ). l ++ rest) (sym (accepted_text r e none long p.may))

  one_later : (accepted r e).events ≡ suc r.events
  unfolding accepted
  one_later = add-one r.events

  pub event_before : (f : Store) → ReadBack (accepted r e) rest f → ReadBack r text f
  event_before f back =
      let snd = tested_sound r none in
      let full = tested_full r none in
      let first = accepted_agrees r snd full e long p.may in
      let next = tested_sound (accepted r e) next_sound in
      let now : AgreeTo (suc r.events) (accepted r e) f = subst (λ (k : ℕ). AgreeTo k (accepted r e) f) one_later back.agree in
      let there : Contains (tallies (accepted r e).order (suc r.events)) (event_at (accepted r e).order r.events) = event_contained (accepted r e) next r.events (omega (arith, one_later)) in
      record {
        sound = back.sound;
        agree = record {
          tablets = first.tablets ∙ back.agree.tablets;
          order = λ q h. first.order q h ∙ back.agree.order q (omega (arith, one_later));
          clocks = λ x c. first.clocks x c ∙ back.agree.clocks x (still_contained r snd full e long p.may x c);
          held = λ x c. first.held x c ∙ back.agree.held x (still_contained r snd full e long p.may x c);
        };
        left = suc back.left;
        total = omega (arith, one_later, back.total);
        bytes = read_lines
            ∙ ap (λ (l : List ℕ). l ++ rest) (event_text_same (accepted r e) f r.events now there)
            ∙ ap (λ (l : List ℕ). event_text f r.events ++ l) (back.bytes ∙ ap (pieces_from f back.left) one_later);
      }

-- a text whose events were all read
read_back_from : (turns : ℕ) (r : Store) (line : ℕ) (text : List ℕ) → store_refusal r ≡ 0 → (read_from turns r line text).refusal ≡ 0 → ReadBack r text (read_from turns r line text).store
read_back_from zero r line text none passed = let no : ⊥ = omega arith in absurd no
read_back_from (suc turns) r line text none passed =
    by_line (ends_here text) (eqb (turn r text).refusal 0) refl passed (λ s k rest. read_back_from turns s k rest)
  where
    body : Bool → Bool → ReadOutcome
    body ends passes =
        cond ends (ending r line text)
        (cond passes
        (read_from turns (turn r text).store (line + 3) (drop (turn r text).used text))
        (refused (turn r text).refusal (line + (turn r text).line) (turn r text).store))

    by_line : (ends passes : Bool) → eqb (turn r text).refusal 0 ≡ passes → (body ends passes).refusal ≡ 0 → ((s : Store) (k : ℕ) (rest : List ℕ) → store_refusal s ≡ 0 → (read_from turns s k rest).refusal ≡ 0 → ReadBack s rest (read_from turns s k rest).store) → ReadBack r text (body ends passes).store
    by_line true passes t z again =
        let b = ending_back r line text z in
        subst (ReadBack r text) (sym b.0)
        (record { sound = none; agree = agree_self r.events r; left = 0; total = omega arith; bytes = b.1 })
    by_line false true t z again =
        let p = turn_passed r text (eqb-true (turn r text).refusal 0 t) in
        event_before r none text p _
        (subst (λ (s : Store). ReadBack s (drop p.lines.used text) (read_from turns (turn r text).store (line + 3) (drop (turn r text).used text)).store) p.stored
        (subst (λ (k : ℕ). ReadBack (turn r text).store (drop k text) (read_from turns (turn r text).store (line + 3) (drop (turn r text).used text)).store) p.used
        (again (turn r text).store (line + 3) (drop (turn r text).used text) (ap store_refusal p.stored ∙ next_sound r none text p) z)))
    by_line false false t z again = absurd (eqb-false (turn r text).refusal 0 t z)

-- a text that was read, told by the store that it left
module _ (text clocks held order : List ℕ) (passed : (reading text clocks held order).refusal ≡ 0) where
  abbrev f : Store
  f = (reading text clocks held order).store

  not_refused : (k l : ℕ) (s : Store) → 1 ≤ k → reading text clocks held order ≡ refused k l s → ⊥
  not_refused k l s some is = omega (arith, ap (λ (o : ReadOutcome). o.refusal) is)

  by_fresh : (n : ℕ) → number_line tablets_key 255 text ≡ Some n → (o : ReadOutcome) → o.refusal ≡ 0 → ReadBack (store_of (fresh_record n) clocks held order) (rest_lines text) o.store → (store_refusal o.store ≡ 0) × (text_of o.store ≡ text)
  by_fresh n is o z back =
      let all : back.left ≡ o.store.events = omega (arith, back.total) in (
        back.sound,
        text_from o.store
            ∙ ap₂ (λ (m k : ℕ). key_line tablets_key m ++ pieces_from o.store k 0) (sym back.agree.tablets) (sym all)
            ∙ ap (λ (l : List ℕ). key_line tablets_key n ++ l) (sym back.bytes)
            ∙ sym (number_line_back tablets_key 255 text n is),
      )

  by_record : (n : ℕ) → number_line tablets_key 255 text ≡ Some n → full_sizes clocks held order ≡ true → (store_refusal f ≡ 0) × (text_of f ≡ text)
  unfolding read_on
  by_record n is full =
      by_cases (dec_le 1 (record_refusal (fresh_record n)))
      (λ some. absurd (not_refused (record_refusal (fresh_record n)) 1 _ some (reading_refused text clocks held order full n is some)))
      (λ none. let fits : record_refusal (fresh_record n) ≡ 0 = omega arith in
      let e = reading_goes text clocks held order full n is fits in
      let z = sym (ap (λ (o : ReadOutcome). o.refusal) e) ∙ passed in
      subst (λ (o : ReadOutcome). (store_refusal o.store ≡ 0) × (text_of o.store ≡ text)) (sym e)
      (by_fresh n is (read_on (store_of (fresh_record n) clocks held order) 2 (rest_lines text)) z
      (read_back_from (2033 - 0) (store_of (fresh_record n) clocks held order) 2 (rest_lines text) (fresh_store clocks held order n fits full).refusal z)))

  by_tablets : (x : Option ℕ) → number_line tablets_key 255 text ≡ x → full_sizes clocks held order ≡ true → (store_refusal f ≡ 0) × (text_of f ≡ text)
  by_tablets (Some n) is full = by_record n is full
  by_tablets None is full = absurd (not_refused 12 1 _ (omega arith) (reading_faulty text clocks held order full is))

  by_sizes : (b : Bool) → full_sizes clocks held order ≡ b → (store_refusal f ≡ 0) × (text_of f ≡ text)
  by_sizes true full = by_tablets (number_line tablets_key 255 text) refl full
  by_sizes false short = absurd (not_refused 2 0 _ (omega arith) (reading_short text clocks held order short))

  pub read_back : (store_refusal f ≡ 0) × (text_of f ≡ text)
  read_back = by_sizes (full_sizes clocks held order) refl
