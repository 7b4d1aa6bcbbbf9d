-- Rule 52, the numbers of the refusals. Where a definition gives a number, 0 stands for no refusal.
use Rattle.std.specs.Prelude.{ℕ, cond, eqb, Result, Ok, Err}
use Rattle.model.specs.declared.Refusal.{Refusal}
use Rattle.model.specs.declared.Refusal.TheVariants.{NoSuchTabletCount, ShortBuffer, InvalidStore, NoSuchTablet, OwnEntryNotNext, EntryTooHigh, NotCovered, TabletFull, NoSuchPosition, PlaceOutside, CountTooLarge, FaultyLine, BadSet, ShortOutput, InputTooLong}

abbrev pub number_of : Refusal → ℕ
-- the number of tablets is 0 or above 8
number_of NoSuchTabletCount = 1
-- a buffer is too short for the store
number_of ShortBuffer = 2
-- the stored events are not valid
number_of InvalidStore = 3
-- the event's tablet is 0 or above n
number_of NoSuchTablet = 4
-- rule 14 is broken
number_of OwnEntryNotNext = 5
-- rule 15 is broken
number_of EntryTooHigh = 6
-- rule 16 is broken
number_of NotCovered = 7
-- the event's tablet is full
number_of TabletFull = 8
-- there is no such position, or piece
number_of NoSuchPosition = 9
-- a begun place's cut is not one of the interval's
number_of PlaceOutside = 10
-- a count above 64 bits
number_of CountTooLarge = 11
-- a line is faulty or missing
number_of FaultyLine = 12
-- a set that cannot be asked
number_of BadSet = 13
-- the output is too short
number_of ShortOutput = 14
-- the program's input is too long
number_of InputTooLong = 15

-- of what a call answers, whatever it gives where nothing is refused
abbrev pub verdict_number : {A : Type 0} → Result A Refusal → ℕ
verdict_number (Ok given) = 0
verdict_number (Err why) = number_of why

-- rule 50: the first that applies
abbrev pub or_else : ℕ → ℕ → ℕ
or_else refusal next = cond (eqb refusal 0) next refusal
