-- The steps of reading: each leaves the reader where the rest reads as it was to be read.
use mathlib.Core.Path.{◌≡◌, sym, ap, ap₂, ◌∙◌, subst}
use mathlib.Core.Bool.{true, false}
use mathlib.Core.List.{List, [], ◌∷◌}
use Prim.Native.Nat.{ℕ, ◌+◌, ◌-◌, ◌≤◌, ◌<◌}
use native.Mathlib.Omega.{arith}
use lib.ListN.{length, take, drop}
use denote.Ref.{Bor}
use lib.Seq.{drop-drop}
use Rattle.std.specs.Prelude.{Some, None, Result, Ok, Err}
use Rattle.model.specs.declared.Record.{Record}
use Rattle.model.specs.declared.Refusal.{Refusal}
use Rattle.model.specs.declared.Refusal.TheVariants.{FaultyLine}
use Rattle.model.specs.Refusals.{number_of}
use Rattle.model.specs.Store.{Store, store_of, no_record}
use Rattle.model.proofs.Refusals.{number_positive}
use Rattle.store.specs.declared.inner.Appended.{Appended}
use Rattle.store.specs.Outcomes.{Outcome, AppendReady, AppendedTo, opened, appended, appending, tallies_left}
use Rattle.store.proofs.Theorems.{append_ready}
use Rattle.std.proofs.lemmas.List.{take_rest}
use Rattle.lines.specs.Find.{line_length}
use Rattle.loglines.specs.declared.reader.Reader.{Reader}
use Rattle.loglines.specs.Keys.{number_line, ends_here, tablets_key, events_key}
use Rattle.loglines.specs.declared.events.EventLines.{EventLines}
use Rattle.loglines.specs.declared.events.FaultyLine.{FaultyLine as Faulty}
use Rattle.loglines.specs.Events.{event_lines}
use Rattle.loglines.proofs.Lines.{number_some}
use Rattle.text.specs.declared.standing.Step.{Step}
use Rattle.text.specs.declared.standing.Next.{Next}
use Rattle.text.specs.declared.standing.Next.TheVariants.{More, Read, Refused}
use Rattle.text.specs.declared.events.TakenEvent.{TakenEvent}
use Rattle.text.specs.declared.events.RefusedEvent.{RefusedEvent}
use Rattle.text.specs.Reading.{ReadOutcome, TurnOutcome, refused, ending, turn, read_on, reading}
use Rattle.text.specs.Steps.{Placed, StepTaken, follows, heading, HeadRead, IsTaken, IsRefused, TurnTaken}
use Rattle.text.proofs.Opening.{head_opens, head_refuses, fresh_store, reading_goes}
use Rattle.text.proofs.Places.{at_front, behind_line, further}
use Rattle.text.proofs.Turns.{ending_fault, ending_other, ending_more, ending_done, step_end, step_refused, step_on, turn_events, behind_event, turn_faulty, turn_offered, event_looked}

-- a step towards an outcome is one towards the same said otherwise
taken_as : (ahead : List ℕ) (line : ℕ) (whole other : ReadOutcome) (t : Step) (clocks held order : List ℕ) → whole ≡ other → StepTaken ahead line whole t clocks held order → StepTaken ahead line other t clocks held order
taken_as ahead line whole other t clocks held order same k =
    record { outcome_is = k.outcome_is ∙ same; placed = k.placed; on = k.on }

-- refused where the reader stands
module _ (ahead : List ℕ) (line : ℕ) (whole : ReadOutcome) (why : Refusal) (r : Record) (clocks held order : List ℕ) where
  stays : whole ≡ refused (number_of why) line (store_of r clocks held order) → StepTaken ahead line whole (record { bytes = 0; lines = 0; «record» = r; next = Refused why }) clocks held order
  stays e =
      let same : line + 0 ≡ line = omega arith in
      record {
        outcome_is = ap (λ (k : ℕ). refused (number_of why) k (store_of r clocks held order)) same ∙ sym e;
        placed = at_front ahead;
        on = tt;
      }

-- the head

module _ (text : List ℕ) where
  pub head_goes : (r : Record) (end : ℕ) → opened (Ok r) ≡ heading text → end ≡ line_length text → HeadRead text (record { bytes = end + 1; lines = 1; «record» = r; next = More (0 ∷ 0 ∷ 0 ∷ 0 ∷ 0 ∷ 0 ∷ 0 ∷ 0 ∷ []) })
  head_goes r end is long clocks held order full =
      let h = head_opens text r is in
      record {
        outcome_is = ap₂ (λ (q : Record) (k : ℕ). read_on (store_of q clocks held order) 2 (drop (k + 1) text)) h.fresh long
            ∙ sym (reading_goes text clocks held order full h.tablets h.said h.fits);
        placed = subst (λ (k : ℕ). Placed text (k + 1) 2) (sym long) (behind_line text (number_some tablets_key 255 text h.tablets h.said));
        on = record {
          append = subst (λ (q : Record). AppendReady (store_of q clocks held order) (0 ∷ 0 ∷ 0 ∷ 0 ∷ 0 ∷ 0 ∷ 0 ∷ 0 ∷ [])) (sym h.fresh) (fresh_store clocks held order h.tablets h.fits full);
          further = omega arith;
        };
      }

  pub head_stays : (why : Refusal) (r : Record) → opened (Err why) ≡ heading text → r ≡ no_record → HeadRead text (record { bytes = 0; lines = 0; «record» = r; next = Refused why })
  head_stays why r is none clocks held order full =
      stays text 1 (reading text clocks held order) why r clocks held order
      (head_refuses text why clocks held order full is
      ∙ ap (λ (q : Record). refused (number_of why) 1 (store_of q clocks held order)) (sym none))

-- the last line

module _ (ahead : List ℕ) (r : Record) (line : ℕ) (clocks held order : List ℕ) where
  abbrev s : Store
  s = store_of r clocks held order

  pub end_none : number_line events_key 65535 ahead ≡ None → StepTaken ahead line (ending s line ahead) (record { bytes = 0; lines = 0; «record» = r; next = Refused FaultyLine }) clocks held order
  end_none e = stays ahead line (ending s line ahead) FaultyLine r clocks held order (ending_fault s line ahead e)

  module _ (v : ℕ) (is : number_line events_key 65535 ahead ≡ Some v) where
    pub end_other : (v ≡ r.events → ⊥) → StepTaken ahead line (ending s line ahead) (record { bytes = 0; lines = 0; «record» = r; next = Refused FaultyLine }) clocks held order
    end_other other = stays ahead line (ending s line ahead) FaultyLine r clocks held order (ending_other s line ahead v is other)

    module _ (same : v ≡ r.events) (end : ℕ) (long : end ≡ line_length ahead) where
      behind_end : Placed ahead (end + 1) 2
      behind_end =
          subst (λ (k : ℕ). Placed ahead (k + 1) 2) (sym long) (behind_line ahead (number_some events_key 65535 ahead v is))

      pub end_more : end + 1 < length ahead → StepTaken ahead line (ending s line ahead) (record { bytes = end + 1; lines = 1; «record» = r; next = Refused FaultyLine }) clocks held order
      end_more h =
          record { outcome_is = sym (ending_more s line ahead v is same (omega arith)); placed = behind_end; on = tt }

      pub end_read : length ahead ≤ end + 1 → StepTaken ahead line (ending s line ahead) (record { bytes = end + 1; lines = 1; «record» = r; next = Read }) clocks held order
      end_read h =
          record { outcome_is = sym (ending_done s line ahead v is same (omega arith)); placed = behind_end; on = tt }

pub ruleset last_lines = (end_none, end_other)

-- the lines of an event, as they are read and offered to the store

module _ (r : Record) (clocks held order ahead : List ℕ) where
  abbrev before_it : Store
  before_it = store_of r clocks held order

  pub event_faulty : (f : Faulty) (t : RefusedEvent) → event_lines r.tablets ahead ≡ Err f → t ≡ record { why = FaultyLine; line = f.line; before = f.before } → IsRefused before_it ahead t clocks held order r
  event_faulty f t is told =
      let says = turn_faulty before_it ahead f is in
      rw told (record {
        refusal_is = sym (ap (λ (o : TurnOutcome). o.refusal) says);
        line_is = sym (ap (λ (o : TurnOutcome). o.line) says);
        store_is = sym (ap (λ (o : TurnOutcome). o.store) says);
        placed = event_looked r.tablets ahead (Err f) is;
      })

  module _ (e : EventLines) (is : event_lines r.tablets ahead ≡ Ok e) (answer : Result Appended Refusal) (bytes numbers tablets counts : List ℕ) (done : AppendedTo before_it e.event (appended r answer bytes numbers tablets) (tallies_left counts answer)) where
    says : turn before_it ahead ≡ record { refusal = (appending before_it e.event).refusal; line = 2; used = e.used; store = (appending before_it e.event).store }
    says = turn_offered before_it ahead e is

    pub event_refused : (why : Refusal) (t : RefusedEvent) → answer ≡ Err why → t ≡ record { why = why; line = 2; before = e.before } → IsRefused before_it ahead t bytes numbers tablets r
    event_refused why t answered told =
        let outcome = subst (λ (a : Result Appended Refusal). appended r a bytes numbers tablets ≡ appending before_it e.event) answered done.outcome_is in
        rw told (record {
          refusal_is = ap (λ (o : Outcome). o.refusal) outcome ∙ sym (ap (λ (o : TurnOutcome). o.refusal) says);
          line_is = sym (ap (λ (o : TurnOutcome). o.line) says);
          store_is = ap (λ (o : Outcome). o.store) outcome ∙ sym (ap (λ (o : TurnOutcome). o.store) says);
          placed = event_looked r.tablets ahead (Ok e) is;
        })

    pub event_taken : (a : Appended) → answer ≡ Ok a → length e.event.clock ≡ 8 → AppendReady before_it counts → IsTaken before_it ahead (record { used = e.used; «record» = a.record; tallies = a.tallies }) bytes numbers tablets
    event_taken a answered long ready =
        let now = subst (λ (x : Result Appended Refusal). AppendedTo before_it e.event (appended r x bytes numbers tablets) (tallies_left counts x)) answered done in
        record {
          passed = ap (λ (o : TurnOutcome). o.refusal) says ∙ sym (ap (λ (o : Outcome). o.refusal) now.outcome_is);
          used_is = sym (ap (λ (o : TurnOutcome). o.used) says);
          store_is = ap (λ (o : Outcome). o.store) now.outcome_is ∙ sym (ap (λ (o : TurnOutcome). o.store) says);
          ready = append_ready before_it e.event counts _ _ long ready now;
        }

-- a turn behind the head: the last line, or the lines of an event

module _ (s : Store) (ahead : List ℕ) (clocks held order : List ℕ) (few : s.events ≤ 2032) (line : ℕ) where
  pub turn_ends : (t : Step) → ends_here ahead ≡ true → StepTaken ahead line (ending s line ahead) t clocks held order → StepTaken ahead line (read_on s line ahead) t clocks held order
  turn_ends t e =
      taken_as ahead line (ending s line ahead) (read_on s line ahead) t clocks held order (sym (step_end s line ahead few e))

  module _ (goes : ends_here ahead ≡ false) where
    pub turn_takes : (t : TakenEvent) → IsTaken s ahead t clocks held order → StepTaken ahead line (read_on s line ahead) (record { bytes = t.used; lines = 3; «record» = t.record; next = More t.tallies }) clocks held order
    turn_takes t k =
        let b = behind_event s ahead k.passed in
        record {
          outcome_is = ap₂ (λ (r : Store) (n : ℕ). read_on r (line + 3) (drop n ahead)) k.store_is k.used_is
              ∙ sym (step_on s line ahead few goes k.passed (turn_events s ahead k.passed));
          placed = subst (λ (n : ℕ). Placed ahead n 4) (sym k.used_is) b.1;
          on = record { append = k.ready; further = omega (arith, k.used_is, b.0) };
        }

    pub turn_refuses : (t : RefusedEvent) (r : Record) → IsRefused s ahead t clocks held order r → StepTaken ahead line (read_on s line ahead) (record { bytes = t.before; lines = t.line; «record» = r; next = Refused t.why }) clocks held order
    turn_refuses t r k =
        record {
          outcome_is = ap (λ (n : ℕ). refused n (line + t.line) (store_of r clocks held order)) k.refusal_is
              ∙ ap₂ (λ (n : ℕ) (q : Store). refused (turn s ahead).refusal (line + n) q) k.line_is k.store_is
              ∙ sym (step_refused s line ahead few goes (omega (arith, number_positive t.why, k.refusal_is)));
          placed = k.placed;
          on = tt;
        }

-- between two turns: the reader stands over the text, and the step says where it goes from there

pub record Going (text : List ℕ) (whole : ReadOutcome) (r : Reader) (t : Step) (clocks held order : List ℕ) : Type 0 where
  pub over : r.src.now ≡ text
  pub here : Placed text r.at r.line
  pub taken : StepTaken (drop r.at text) r.line whole t clocks held order

module _ (text : List ℕ) (whole : ReadOutcome) (r : Reader) (t : Step) (clocks held order : List ℕ) (g : Going text whole r t clocks held order) where
  -- where the reader goes, a line of the text begins
  pub going_to : Placed text (r.at + t.bytes) (r.line + t.lines)
  going_to = further text r.at r.line g.here t.bytes t.lines g.taken.placed

  -- the outcome, where nothing follows
  pub ends_as : (n : Next) → t.next ≡ n → follows n (drop (r.at + t.bytes) text) (r.line + t.lines) (store_of t.record clocks held order) ≡ whole
  ends_as n is =
      ap₂ (λ (m : Next) (l : List ℕ). follows m l (r.line + t.lines) (store_of t.record clocks held order)) (sym is) (sym (drop-drop t.bytes r.at text))
      ∙ g.taken.outcome_is

  -- the next step, by a turn that sees what is ahead of the moved reader
  pub goes_on : (q : Reader) (n : Step) (bytes numbers tablets tallies : List ℕ) → t.next ≡ More tallies → (q.src ≡ r.src) × (q.at ≡ r.at + t.bytes) × (q.line ≡ r.line + t.lines) → TurnTaken (store_of t.record clocks held order) (take (length q.src.now - q.at) (drop q.at q.src.now)) n bytes numbers tablets → Going text whole q n bytes numbers tablets
  goes_on q n bytes numbers tablets tallies is moved taken =
      let s : Store = store_of t.record clocks held order in
      let over : q.src.now ≡ text = ap (λ (b : Bor (List ℕ)). b.now) moved.0 ∙ g.over in
      let ahead = take_rest q.src.now q.at ∙ ap (drop q.at) over in
      record {
        over = over;
        here = subst (λ (l : ℕ). Placed text q.at l) (sym moved.2) (subst (λ (k : ℕ). Placed text k (r.line + t.lines)) (sym moved.1) going_to);
        taken = taken_as (drop q.at text) q.line (read_on s q.line (drop q.at text)) whole n bytes numbers tablets
            (ap₂ (λ (k l : ℕ). read_on s l (drop k text)) moved.1 moved.2 ∙ ends_as (More tallies) is)
            (subst (λ (a : List ℕ). StepTaken a q.line (read_on s q.line a) n bytes numbers tablets) ahead (taken q.line));
      }
