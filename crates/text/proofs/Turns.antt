-- Reading, one turn at a time: the last line, the lines of an event, and what a turn does to the rest.
use mathlib.Core.Path.{◌≡◌, refl, sym, ap, ◌∙◌, subst}
use mathlib.Core.Logic.{◌≢◌, by_cases}
use mathlib.Core.Bool.{Bool, true, false, cond}
use mathlib.Core.List.{List}
use Prim.Native.Nat.{ℕ, suc, ◌+◌, ◌-◌, ◌≤◌, ◌<◌}
use native.Mathlib.Omega.{arith}
use native.Mathlib.Decide.{dec_le}
use borrow.Author.Tests.{eq-eqb, ne_eqb, lt-ltb, le-ltb}
use lib.Dec.{eqb, ltb}
use lib.ListN.{length, drop}
use lib.Seq.{drop-drop}
use Rattle.model.specs.Store.{Store, accepted, event_refusal}
use Rattle.store.specs.Outcomes.{Outcome, appending}
use Rattle.store.proofs.Outcomes.{append_passed, append_refused}
use Rattle.lines.specs.Find.{first_line, rest_lines}
use Rattle.std.specs.Prelude.{Option, Some, None, Result, Ok, Err, MatchResult, IsErrAnd}
use Rattle.std.proofs.lemmas.Result.{err_from_is_err_and}
use Rattle.loglines.specs.declared.events.EventLines.{EventLines}
use Rattle.loglines.specs.declared.events.FaultyLine.{FaultyLine}
use Rattle.loglines.specs.Keys.{number_line, clock_line, ends_here, tablet_key, held_key, events_key}
use Rattle.loglines.specs.Events.{with_said, faulty_event, line_bytes, held_part, clock_part, event_lines}
use Rattle.loglines.proofs.Lines.{with_value, with_fault, number_some, clock_some}
use Rattle.text.specs.Reading.{ReadOutcome, refused, ending, TurnOutcome, offered, turn, read_from, read_on}
use Rattle.text.specs.Steps.{Placed}
use Rattle.text.proofs.Places.{at_front, behind_line, further}

-- the last line

module _ (s : Store) (line : ℕ) (text : List ℕ) where
  abbrev behind_it : ℕ → ReadOutcome
  behind_it count =
      cond (eqb count s.events)
      (cond (ltb (line_bytes text) (length text)) (refused 12 (line + 1) s) (record { refusal = 0; line = 0; store = s }))
      (refused 12 line s)

  pub ending_fault : number_line events_key 65535 text ≡ None → ending s line text ≡ refused 12 line s
  unfolding ending
  ending_fault e = with_fault (refused 12 line s) behind_it (number_line events_key 65535 text) e

  module _ (v : ℕ) (is : number_line events_key 65535 text ≡ Some v) where
    said : ending s line text ≡ behind_it v
    unfolding ending
    said = with_value (refused 12 line s) behind_it (number_line events_key 65535 text) v is

    pub ending_other : v ≢ s.events → ending s line text ≡ refused 12 line s
    ending_other other =
        said ∙ ap (λ (b : Bool). cond b (cond (ltb (line_bytes text) (length text)) (refused 12 (line + 1) s) (record { refusal = 0; line = 0; store = s })) (refused 12 line s)) (ne_eqb v s.events other)

    module _ (same : v ≡ s.events) where
      right : ending s line text ≡ cond (ltb (line_bytes text) (length text)) (refused 12 (line + 1) s) (record { refusal = 0; line = 0; store = s })
      right =
          said ∙ ap (λ (b : Bool). cond b (cond (ltb (line_bytes text) (length text)) (refused 12 (line + 1) s) (record { refusal = 0; line = 0; store = s })) (refused 12 line s)) (eq-eqb v s.events same)

      pub ending_more : line_bytes text < length text → ending s line text ≡ refused 12 (line + 1) s
      ending_more h =
          right ∙ ap (λ (b : Bool). cond b (refused 12 (line + 1) s) (record { refusal = 0; line = 0; store = s })) (lt-ltb (line_bytes text) (length text) h)

      pub ending_done : length text ≤ line_bytes text → ending s line text ≡ record { refusal = 0; line = 0; store = s }
      ending_done h =
          right ∙ ap (λ (b : Bool). cond b (refused 12 (line + 1) s) (record { refusal = 0; line = 0; store = s })) (le-ltb (line_bytes text) (length text) h)

-- the lines of an event

pub turn_faulty : (s : Store) (text : List ℕ) (f : FaultyLine) → event_lines s.tablets text ≡ Err f → turn s text ≡ record { refusal = 12; line = f.line; used = 0; store = s }
unfolding turn
turn_faulty s text f is = ap (offered s) is

pub turn_offered : (s : Store) (text : List ℕ) (e : EventLines) → event_lines s.tablets text ≡ Ok e → turn s text ≡ record { refusal = (appending s e.event).refusal; line = 2; used = e.used; store = (appending s e.event).store }
unfolding turn
turn_offered s text e is = ap (offered s) is

-- a turn of reading

module _ (s : Store) (line : ℕ) (rest : List ℕ) (few : s.events ≤ 2032) where
  one_more : 2033 - s.events ≡ suc (2032 - s.events)
  one_more = omega arith

  abbrev body : Bool → Bool → ReadOutcome
  body ends passes =
      cond ends (ending s line rest)
      (cond passes
      (read_from (2032 - s.events) (turn s rest).store (line + 3) (drop (turn s rest).used rest))
      (refused (turn s rest).refusal (line + (turn s rest).line) (turn s rest).store))

  opened_up : read_on s line rest ≡ body (ends_here rest) (eqb (turn s rest).refusal 0)
  unfolding read_on
  opened_up = ap (λ (m : ℕ). read_from m s line rest) one_more

  pub step_end : ends_here rest ≡ true → read_on s line rest ≡ ending s line rest
  step_end e = opened_up ∙ ap (λ (b : Bool). body b (eqb (turn s rest).refusal 0)) e

  module _ (goes : ends_here rest ≡ false) where
    pub step_refused : 1 ≤ (turn s rest).refusal → read_on s line rest ≡ refused (turn s rest).refusal (line + (turn s rest).line) (turn s rest).store
    step_refused h =
        let some : (turn s rest).refusal ≢ 0 = omega arith in
        opened_up ∙ ap (λ (b : Bool). body b (eqb (turn s rest).refusal 0)) goes
        ∙ ap (body false) (ne_eqb (turn s rest).refusal 0 some)

    pub step_on : (turn s rest).refusal ≡ 0 → (turn s rest).store.events ≡ s.events + 1 → read_on s line rest ≡ read_on (turn s rest).store (line + 3) (drop (turn s rest).used rest)
    unfolding read_on
    step_on none more =
        let left : 2032 - s.events ≡ 2033 - (turn s rest).store.events = omega arith in
        opened_up ∙ ap (λ (b : Bool). body b (eqb (turn s rest).refusal 0)) goes
        ∙ ap (body false) (eq-eqb (turn s rest).refusal 0 none)
        ∙ ap (λ (m : ℕ). read_from m (turn s rest).store (line + 3) (drop (turn s rest).used rest)) left

-- lines that give an event, told by what each of them says
pub record EventBack (n : ℕ) (text : List ℕ) : Type 0 where
  pub tablet : ℕ
  pub clock : List ℕ
  pub held : ℕ
  pub tablet_is : number_line tablet_key 255 text ≡ Some tablet
  pub clock_is : clock_line n (rest_lines text) ≡ Some clock
  pub held_is : number_line held_key 65535 (rest_lines (rest_lines text)) ≡ Some held
  pub is : event_lines n text ≡ Ok (record { before = line_bytes text + line_bytes (rest_lines text); used = line_bytes text + line_bytes (rest_lines text) + line_bytes (rest_lines (rest_lines text)); event = record { tablet = record { 0 = tablet }; clock = clock; held = held } })

abbrev held_for : ℕ → ℕ → List ℕ → List ℕ → ℕ → Result EventLines FaultyLine
held_for used tablet clock text held = Ok (record { before = used; used = used + line_bytes text; event = record { tablet = record { 0 = tablet }; clock = clock; held = held } })

-- what an event's lines say: the first of them that is faulty, or the event
pub data EventSaid (n : ℕ) (text : List ℕ) : Type 0 where
  no_tablet : event_lines n text ≡ faulty_event 0 0 → EventSaid n text
  no_list : 1 ≤ length (first_line text) → event_lines n text ≡ faulty_event 1 (line_bytes text) → EventSaid n text
  no_held : 1 ≤ length (first_line text) → 1 ≤ length (first_line (rest_lines text)) → event_lines n text ≡ faulty_event 2 (line_bytes text + line_bytes (rest_lines text)) → EventSaid n text
  gives : EventBack n text → EventSaid n text

-- how many of the three lines, and how many bytes, stand before the last line that was looked at
abbrev pub lines_before : Result EventLines FaultyLine → ℕ
lines_before (Ok e) = 2
lines_before (Err f) = f.line

abbrev pub bytes_before : Result EventLines FaultyLine → ℕ
bytes_before (Ok e) = e.before
bytes_before (Err f) = f.before

module _ (n : ℕ) (text : List ℕ) where
  abbrev second : List ℕ
  second = rest_lines text

  abbrev third : List ℕ
  third = rest_lines (rest_lines text)

  tablet_line : event_lines n text ≡ with_said (number_line tablet_key 255 text) (faulty_event 0 0) (λ t. clock_part n (line_bytes text) t second)
  unfolding event_lines
  tablet_line = refl

  clock_next : (used tablet : ℕ) → clock_part n used tablet second ≡ with_said (clock_line n second) (faulty_event 1 used) (λ clock. held_part (used + line_bytes second) tablet clock third)
  unfolding clock_part
  clock_next used tablet = refl

  held_line : (used tablet : ℕ) (clock : List ℕ) → held_part used tablet clock third ≡ with_said (number_line held_key 65535 third) (faulty_event 2 used) (held_for used tablet clock third)
  unfolding held_part
  held_line used tablet clock = refl

  -- line by line, as far as each of them says something
  module _ (t : ℕ) (et : number_line tablet_key 255 text ≡ Some t) where
    by_tablet : event_lines n text ≡ with_said (clock_line n second) (faulty_event 1 (line_bytes text)) (λ clock. held_part (line_bytes text + line_bytes second) t clock third)
    by_tablet =
        tablet_line
        ∙ with_value (faulty_event 0 0) (λ k. clock_part n (line_bytes text) k second) (number_line tablet_key 255 text) t et
        ∙ clock_next (line_bytes text) t

    module _ (clock : List ℕ) (ec : clock_line n second ≡ Some clock) where
      by_clock : event_lines n text ≡ with_said (number_line held_key 65535 third) (faulty_event 2 (line_bytes text + line_bytes second)) (held_for (line_bytes text + line_bytes second) t clock third)
      by_clock =
          by_tablet
          ∙ with_value (faulty_event 1 (line_bytes text)) (λ c. held_part (line_bytes text + line_bytes second) t c third) (clock_line n second) clock ec
          ∙ held_line (line_bytes text + line_bytes second) t clock

  pub event_said : (t : ℕ) (clock : List ℕ) (h : ℕ) → number_line tablet_key 255 text ≡ Some t → clock_line n second ≡ Some clock → number_line held_key 65535 third ≡ Some h → event_lines n text ≡ held_for (line_bytes text + line_bytes second) t clock third h
  event_said t clock h et ec eh =
      by_clock t et clock ec
      ∙ with_value (faulty_event 2 (line_bytes text + line_bytes second)) (held_for (line_bytes text + line_bytes second) t clock third) (number_line held_key 65535 third) h eh

  -- so the three lines give an event, or one of them is the first faulty one
  said_held : (t : ℕ) → number_line tablet_key 255 text ≡ Some t → (clock : List ℕ) → clock_line n second ≡ Some clock → (y : Option ℕ) → number_line held_key 65535 third ≡ y → EventSaid n text
  said_held t et clock ec (Some h) eh =
      gives (record { tablet = t; clock = clock; held = h; tablet_is = et; clock_is = ec; held_is = eh; is = event_said t clock h et ec eh })
  said_held t et clock ec None eh =
      no_held (number_some tablet_key 255 text t et) (clock_some n second clock ec)
      (by_clock t et clock ec
      ∙ with_fault (faulty_event 2 (line_bytes text + line_bytes second)) (held_for (line_bytes text + line_bytes second) t clock third) (number_line held_key 65535 third) eh)

  said_clock : (t : ℕ) → number_line tablet_key 255 text ≡ Some t → (c : Option (List ℕ)) → clock_line n second ≡ c → EventSaid n text
  said_clock t et (Some clock) ec = said_held t et clock ec (number_line held_key 65535 third) refl
  said_clock t et None ec =
      no_list (number_some tablet_key 255 text t et)
      (by_tablet t et
      ∙ with_fault (faulty_event 1 (line_bytes text)) (λ c. held_part (line_bytes text + line_bytes second) t c third) (clock_line n second) ec)

  said_tablet : (x : Option ℕ) → number_line tablet_key 255 text ≡ x → EventSaid n text
  said_tablet (Some t) et = said_clock t et (clock_line n second) refl
  said_tablet None et =
      no_tablet (tablet_line ∙ with_fault (faulty_event 0 0) (λ k. clock_part n (line_bytes text) k second) (number_line tablet_key 255 text) et)

  pub event_lines_lem : EventSaid n text
  event_lines_lem = said_tablet (number_line tablet_key 255 text) refl

  -- where the last line that was looked at begins, and how many lines stand before it
  before_third : 1 ≤ length (first_line text) → 1 ≤ length (first_line second) → Placed text (line_bytes text + line_bytes second) 3
  before_third one two = further text (line_bytes text) 2 (behind_line text one) (line_bytes second) 1 (behind_line second two)

  looked_at : (x : Result EventLines FaultyLine) → event_lines n text ≡ x → Placed text (bytes_before x) (lines_before x + 1) → Placed text (bytes_before (event_lines n text)) (lines_before (event_lines n text) + 1)
  looked_at x is = subst (λ (y : Result EventLines FaultyLine). Placed text (bytes_before y) (lines_before y + 1)) (sym is)

  by_said : EventSaid n text → Placed text (bytes_before (event_lines n text)) (lines_before (event_lines n text) + 1)
  by_said (no_tablet is) = looked_at _ is (at_front text)
  by_said (no_list one is) = looked_at _ is (behind_line text one)
  by_said (no_held one two is) = looked_at _ is (before_third one two)
  by_said (gives b) =
      looked_at _ b.is (before_third (number_some tablet_key 255 text b.tablet b.tablet_is) (clock_some n second b.clock b.clock_is))

  pub event_looked : (x : Result EventLines FaultyLine) → event_lines n text ≡ x → Placed text (bytes_before x) (lines_before x + 1)
  event_looked x is =
      subst (λ (y : Result EventLines FaultyLine). Placed text (bytes_before y) (lines_before y + 1)) is (by_said event_lines_lem)

module _ (n : ℕ) (text : List ℕ) (e : EventLines) (whole : event_lines n text ≡ Ok e) where
  no_fault : (k before : ℕ) → event_lines n text ≡ faulty_event k before → ⊥
  no_fault k before is = let z : ◌≡◌ {A = ℕ} 0 1 = cc in omega arith

  by_lines : EventSaid n text → EventBack n text
  by_lines (no_tablet is) = absurd (no_fault 0 _ is)
  by_lines (no_list one is) = absurd (no_fault 1 _ is)
  by_lines (no_held one two is) = absurd (no_fault 2 _ is)
  by_lines (gives b) = b

  pub event_back : EventBack n text
  event_back = by_lines (event_lines_lem n text)

  -- they take three bytes or more, and are three whole lines
  pub used_within : (3 ≤ e.used) × Placed text e.used 4
  used_within =
      let b = event_back in
      let second = rest_lines text in
      let third = rest_lines second in
      let used : e.used ≡ line_bytes text + line_bytes second + line_bytes third = cc (whole, b.is) in
      let two = before_third n text (number_some tablet_key 255 text b.tablet b.tablet_is) (clock_some n second b.clock b.clock_is) in
      let last = subst (λ (rest : List ℕ). Placed rest (line_bytes third) 2) (drop-drop (line_bytes second) (line_bytes text) text)
      (behind_line third (number_some held_key 65535 third b.held b.held_is)) in (
        omega (arith, used),
        subst (λ (k : ℕ). Placed text k 4) (sym used) (further text (line_bytes text + line_bytes second) 3 two (line_bytes third) 1 last),
      )

-- a turn that passed: the event was accepted
pub record TurnPassed (s : Store) (text : List ℕ) : Type 0 where
  pub lines : EventLines
  pub whole : event_lines s.tablets text ≡ Ok lines
  pub may : event_refusal s lines.event ≡ 0
  pub stored : (turn s text).store ≡ accepted s lines.event
  pub used : (turn s text).used ≡ lines.used

module _ (s : Store) (text : List ℕ) (none : (turn s text).refusal ≡ 0) where
  by_event : (x : Result EventLines FaultyLine) → event_lines s.tablets text ≡ x → TurnPassed s text
  by_event (Ok e) whole =
      let is = turn_offered s text e whole in
      let passed : (appending s e.event).refusal ≡ 0 = sym (ap (λ (o : TurnOutcome). o.refusal) is) ∙ none in
      let may : event_refusal s e.event ≡ 0 = by_cases (dec_le 1 (event_refusal s e.event))
      (λ h. let no : ⊥ = omega (arith, ap (λ (o : Outcome). o.refusal) (append_refused s e.event h)) in absurd no)
      (λ h. omega arith) in
      record {
        lines = e;
        whole = whole;
        may = may;
        stored = ap (λ (o : TurnOutcome). o.store) is ∙ ap (λ (o : Outcome). o.store) (append_passed s e.event may);
        used = ap (λ (o : TurnOutcome). o.used) is;
      }
  by_event (Err f) faulty =
      let no : ⊥ = omega (arith, ap (λ (o : TurnOutcome). o.refusal) (turn_faulty s text f faulty)) in absurd no

  pub turn_passed : TurnPassed s text
  turn_passed = by_event (event_lines s.tablets text) refl

pub turn_events : (s : Store) (text : List ℕ) → (turn s text).refusal ≡ 0 → (turn s text).store.events ≡ s.events + 1
unfolding accepted
turn_events s text none = ap (λ (r : Store). r.events) (turn_passed s text none).stored

-- behind the lines of an event that was taken, the fourth line begins
pub behind_event : (s : Store) (text : List ℕ) → (turn s text).refusal ≡ 0 → (3 ≤ (turn s text).used) × Placed text (turn s text).used 4
behind_event s text none =
    let p = turn_passed s text none in
    let w = used_within s.tablets text p.lines p.whole in
    (omega (arith, p.used, w.0), subst (λ (k : ℕ). Placed text k 4) (sym p.used) w.1)

-- what `map_err` was given, where it gives an error
pub failed_as : {A E D : Type 0} (x : Result A E) (m : Result A D) (K : E → D → Type 0) (d : D) → MatchResult x (λ v. m ≡ Ok v) (λ e. IsErrAnd m (K e)) → m ≡ Err d → (e : E) × (x ≡ Err e) × K e d
failed_as (Ok v) m K d k is = let no : ⊥ = cc in absurd no
failed_as (Err e) m K d k is =
    let p = err_from_is_err_and m k in
    (e, refl, subst (K e) (let same : ◌≡◌ {A = Result _ _} (Err p.0) (Err d) = sym p.1 ∙ is in cc) p.2)

pub passed_as : {A E D : Type 0} (x : Result A E) (m : Result A D) (K : E → D → Type 0) (v : A) → MatchResult x (λ w. m ≡ Ok w) (λ e. IsErrAnd m (K e)) → m ≡ Ok v → x ≡ Ok v
passed_as (Ok w) m K v k is = cc
passed_as (Err e) m K v k is =
    let p = err_from_is_err_and m k in
    let failed : m ≡ Err p.0 = p.1 in let no : ⊥ = cc in absurd no
