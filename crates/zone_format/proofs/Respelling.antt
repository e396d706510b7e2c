-- Marks with any number of blanks before each, and the same marks with runs of line ends shortened.
use Rattle.std.proofs.Common.{ℕ, zero, suc, ◌+◌, ◌-◌, Bool, true, false, ◌==◌, not, List, [], ◌∷◌, ◌++◌, drop}
use Rattle.std.specs.Prelude.{replicate}
use Rattle.zone_format.specs.declared.line_state.Above.{Above}
use Rattle.zone_format.specs.declared.line_state.Above.TheVariants.{Line}
use Rattle.zone_format.specs.Form.{blank_below, gap}
use Rattle.zone_format.specs.Marks.{Mark, Token, Note, Open, Close, Feed, Lead, lead}

abbrev pub first_of : List ℕ → ℕ
first_of [] = 0
first_of (n ∷ ns) = n

-- at least one
abbrev pub some : ℕ → ℕ
some zero = 1
some (suc n) = suc n

-- the blanks before something, of a plan's number: none before what is adjacent; on a line at least one;
-- if a line begins an entry, some if it began with one and else none; inside parentheses any number
abbrev pub count : (glued within deep led : Bool) → ℕ → ℕ
count true within deep led n = 0
count false true deep led n = some n
count false false true led n = n
count false false false true n = some n
count false false false false n = 0

abbrev pub deep : ℕ → Bool
deep d = not (d == 0)

abbrev pub next : Bool → Above → Above
next true a = Line
next false a = blank_below a

abbrev pub gap_unless : {A : Type 0} → A → Bool → Above → List A
gap_unless x true a = []
gap_unless x false a = gap x a

abbrev pub end_if : {A : Type 0} → A → Bool → List A
end_if x true = x ∷ []
end_if x false = []

abbrev pub space : Above → Bool → ℕ → List ℕ
space a w n = gap_unless 10 w a ++ replicate n 32

abbrev pub respelt : List ℕ → Above → Bool → ℕ → Bool → List Mark → List ℕ
respelt plan a w d led [] = end_if 10 w
respelt plan a w d led (Token g x ∷ ms) = space a w (count g w (deep d) led (first_of plan)) ++ (x ++ respelt (drop 1 plan) a true d false ms)
respelt plan a w d led (Note x ∷ ms) = space a w (count false w (deep d) led (first_of plan)) ++ (x ++ respelt (drop 1 plan) a true d false ms)
respelt plan a w d led (Open ∷ ms) = space a w (count false w (deep d) led (first_of plan)) ++ (40 ∷ respelt (drop 1 plan) a true (d + 1) false ms)
respelt plan a w d led (Close ∷ ms) = space a w (count false w (deep d) led (first_of plan)) ++ (41 ∷ respelt (drop 1 plan) a true (d - 1) false ms)
respelt plan a w d led (Feed ∷ ms) = end_if 10 w ++ respelt plan (next w a) false d false ms
respelt plan a w d led (Lead ∷ ms) = respelt plan a w d true ms

-- the marks before something on its line
abbrev pub lead_in : Above → Bool → Bool → List Mark
lead_in a true led = []
lead_in a false led = gap Feed a ++ lead led

abbrev pub sq : Above → Bool → Bool → List Mark → List Mark
sq a w led [] = end_if Feed w
sq a w led (Token g x ∷ ms) = lead_in a w led ++ (Token g x ∷ sq a true false ms)
sq a w led (Note x ∷ ms) = lead_in a w led ++ (Note x ∷ sq a true false ms)
sq a w led (Open ∷ ms) = lead_in a w led ++ (Open ∷ sq a true false ms)
sq a w led (Close ∷ ms) = lead_in a w led ++ (Close ∷ sq a true false ms)
sq a w led (Feed ∷ ms) = end_if Feed w ++ sq (next w a) false false ms
sq a w led (Lead ∷ ms) = sq a w true ms
