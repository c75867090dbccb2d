-- The numbers of a refusal, and the line that tells of it.
use Rattle.std.specs.Prelude.{ℕ, List, [], ◌∷◌, ◌++◌, codes, decimal}
use Rattle.refusal.specs.declared.Numbers.{Numbers}
use Rattle.refusal.specs.declared.Refusal.{Refusal}
use Rattle.refusal.specs.declared.Refusal.TheVariants.{BadByte, NotANumber, WrongFieldCount, UnknownLetter, OutOfRange, BadName, MalformedText, WrongLineCount}
use Rattle.refusal.specs.declared.Refusal.TheVariants.{WrongState, BadItem, TooManyNodes, CarriesFlow, Absent, FlowOutOfRange, NoPattern, ArcOverLimit, Unbalanced, ValueOverLimit, BelowDemand, NothingLeft, TooLittleMemory}

-- a refusal by its number, its layer and its place
abbrev pub told : ℕ → ℕ → ℕ → ℕ → Numbers
told number layer a b = record { number = number; layer = layer; a = a; b = b }

-- Layer 1 is the words of a text, 2 its lines, 3 the text as a whole, and 4 the job.
abbrev pub numbers_of : Refusal → Numbers
numbers_of (BadByte line) = told 1 1 line 0
numbers_of (NotANumber line field) = told 2 1 line field
numbers_of (WrongFieldCount line) = told 3 2 line 0
numbers_of (UnknownLetter line field) = told 4 2 line field
numbers_of (OutOfRange line field) = told 5 2 line field
numbers_of (BadName line field) = told 6 2 line field
numbers_of MalformedText = told 8 3 0 0
numbers_of (WrongLineCount line) = told 9 3 line 0
numbers_of WrongState = told 10 4 0 0
numbers_of (BadItem item) = told 7 4 item 0
numbers_of TooManyNodes = told 11 4 0 0
numbers_of (CarriesFlow arc) = told 12 4 arc 0
numbers_of (Absent number) = told 13 4 number 0
numbers_of FlowOutOfRange = told 14 4 0 0
numbers_of NoPattern = told 15 4 0 0
numbers_of ArcOverLimit = told 16 4 0 0
numbers_of (Unbalanced node) = told 18 4 node 0
numbers_of ValueOverLimit = told 19 4 0 0
numbers_of (BelowDemand item) = told 20 4 item 0
numbers_of NothingLeft = told 21 4 0 0
numbers_of TooLittleMemory = told 17 4 0 0

-- `refused`, and the four numbers after one space each
abbrev pub text_of : Numbers → List ℕ
text_of n = codes "refused " ++ (decimal n.number ++ (codes " " ++ (decimal n.layer ++ (codes " " ++ (decimal n.a ++ (codes " " ++ decimal n.b))))))

-- what tells of a refusal
abbrev pub refused_text : Refusal → List ℕ
refused_text r = text_of (numbers_of r)

-- the line that tells of a refusal
abbrev pub refused_line : Refusal → List ℕ
refused_line r = refused_text r ++ (10 ∷ [])
