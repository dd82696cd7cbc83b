-- What is written for a morning's input. Assumes nothing.
--     Answer R qs r b          b is what is written for a line that was taken as r, where the boards held the quotes qs
--     Lines R qs lines b       b is what is written for these lines, one after the other
--     Over n R lines b         the same from absent quotes, with the second board over n bytes of the host's memory
--     Morning n input b        b is what is written for an input, with n bytes of the host's memory; at its end stand some bytes, told as a dump
use Rattle.std.specs.Prelude.{◌≡◌, ℕ, Bool, true, false, List, [], ◌∷◌, ◌++◌, length, replicate, Ok, Err, Result, ◌==◌, nat_le}
use Rattle.market.specs.declared.board.Quote.{Quote}
use Rattle.market.specs.declared.packed.BoardFault.TheVariants.{Length}
use Rattle.market.specs.Quotes.{absent, told, quoted}
use Rattle.market.specs.Any.{rungs_of}
use Rattle.values.specs.declared.faults.Fault.{Fault}
use Rattle.values.specs.declared.faults.LineFault.TheVariants.{NoCall}
use Rattle.values.specs.Codes.{of_line, of_board}
use Rattle.values.specs.Texts.{ended, fault_text}
use Rattle.checks.specs.declared.checked.Settings.{Settings}
use Rattle.lines.specs.Inputs.{lines_of}
use Rattle.morning.specs.declared.taking.Taken.{Taken}
use Rattle.morning.specs.declared.taking.Taken.TheVariants as taking
use Rattle.morning.specs.declared.tops.Tops.{Tops}
use Rattle.morning.specs.Tops.{Top}
use Rattle.opening.specs.Opening.{started}
use Rattle.morning.specs.Mornings.{taken, after}
use Rattle.morning.specs.Words.{quote_line, top_line, passed_line, agreement, dump_from}

-- the exchange's quote and the top of the away market, as they now are; that a call is passed over; or the fault
abbrev pub Answer : (ℕ → Bool) → List Quote → Result Taken Fault → List ℕ → Type 0
Answer R qs (Ok (taking.Told e q)) b = (t : Tops) × Top R (told qs e q) t × (b ≡ quote_line e (quoted (told qs e q) e) ++ top_line t)
Answer R qs (Ok (taking.PassedOver c)) b = b ≡ passed_line c
Answer R qs (Err f) b = b ≡ ended fault_text f

-- each line finds the quotes that those before it left
abbrev pub Lines : (ℕ → Bool) → List Quote → List (List ℕ) → List ℕ → Type 0
Lines R qs [] b = b ≡ []
Lines R qs (line ∷ lines) b = (first rest : List ℕ) × Answer R qs (taken R line) first × Lines R (after qs (taken R line)) lines rest × (b ≡ first ++ rest)

-- both boards agree at the end; memory of another length than 240 gets its fault and no line is answered
abbrev pub OverBytes : Bool → ℕ → (ℕ → Bool) → List (List ℕ) → List ℕ → Type 0
OverBytes true n R lines b = (all : List ℕ) × Lines R (replicate 15 absent) lines all × (b ≡ all ++ agreement true)
OverBytes false n R lines b = b ≡ ended fault_text (of_board (Length n))

abbrev pub Over : ℕ → (ℕ → Bool) → List (List ℕ) → List ℕ → Type 0
Over n R lines b = OverBytes (n == 240) n R lines b

abbrev pub Begun : ℕ → Result Settings Fault → List (List ℕ) → List ℕ → Type 0
Begun n (Ok s) lines b = (all bytes : List ℕ) × Over n (rungs_of s.ladder) lines all × (b ≡ all ++ dump_from 0 bytes)
Begun n (Err f) lines b = b ≡ ended fault_text f

-- an input of no line is answered by nothing; a first line that is refused by its fault alone
abbrev pub Told : ℕ → List (List ℕ) → List ℕ → Type 0
Told n [] b = b ≡ []
Told n (first ∷ rest) b = Begun n (started first) rest b

-- an input of over 65,536 bytes is refused whole
abbrev pub Short : Bool → ℕ → List ℕ → List ℕ → Type 0
Short true n input b = Told n (lines_of input) b
Short false n input b = b ≡ ended fault_text (of_line NoCall)

abbrev pub Morning : ℕ → List ℕ → List ℕ → Type 0
Morning n input b = Short (nat_le (length input) 65536) n input b
