-- Names compared in canonical order, and by their last labels.
use Rattle.std.specs.Prelude.{◌≡◌, ◌≢◌, ◌⊎◌, ℕ, ◌-◌, ℤ, pos, negsuc, Bool, List, [], length, drop, Result, Ok, Err}
use Rattle.std.specs.Borrow.{Bor}
use Rattle.std.specs.declared.cmp.Ordering.{Ordering}
use Rattle.std.specs.declared.cmp.Ordering.TheVariants.{Less, Equal, Greater}
use Rattle.dns_wire.specs.FromOctets.{MakesName}
use Rattle.dns_wire.specs.Order.{same_name}
use Rattle.dns_wire.specs.declared.error.NameError.{NameError}
use Rattle.dns_name.specs.Uncertain.{labels_of, MakesUncertain}
use Rattle.dns_name.specs.declared.name.UncertainName.{UncertainName}
use Rattle.dns_name.specs.declared.name.UncertainName.TheVariants.{Relative}
use Rattle.dns_name.specs.declared.name.error.UncertainDnameError.{UncertainDnameError}
use Rattle.zone_record.specs.Names.{name_order}
use Rattle.c_calls.specs.Entries.{bit}
use Rattle.c_calls.specs.Names.{refusal_of_octets}
use Rattle.c_calls.specs.Reasons.{refusal_of_name}
use Rattle.c_calls.specs.Reports.{ReportsFault, at_start}
use Rattle.c_calls.specs.declared.outcome.Outcome.{Outcome}
use Rattle.c_calls.specs.declared.outcome.Refusal.{Refusal}
use Rattle.c_calls.specs.declared.outcome.Refusal.TheVariants.{RelativeName}

-- the labels of an absolute name; or why octets are not one: no octets are a relative name
abbrev pub IsAbsoluteOf : List ℕ → Result (List (List ℕ)) Refusal → Type 0
IsAbsoluteOf octets (Ok labels) = MakesName octets (Ok labels)
IsAbsoluteOf octets (Err r) = ((octets ≡ []) × (r ≡ RelativeName)) ⊎ ((e : NameError) × (octets ≢ []) × MakesName octets (Err e) × (r ≡ refusal_of_name e))

-- two names; or why the first of them that is not one is not
abbrev pub MakesBoth : {N : Type 0} → (List ℕ → Result N Refusal → Type 0) → List ℕ → List ℕ → Result (N × N) Refusal → Type 0
MakesBoth Makes a b (Ok both) = Makes a (Ok both.0) × Makes b (Ok both.1)
MakesBoth {N} Makes a b (Err r) = Makes a (Err r) ⊎ ((name : N) × Makes a (Ok name) × Makes b (Err r))

-- a value of two names is written; or the error is reported, and nothing was written
abbrev pub ReportsOfBoth : {N X : Type 0} → (N → N → X → Type 0) → Result (N × N) Refusal → X → ℕ → X → Outcome → Type 0
ReportsOfBoth Is (Ok both) old status new outcome = (status ≡ 0) × (outcome ≡ record { length = 0; place = 0 }) × Is both.0 both.1 new
ReportsOfBoth Is (Err r) old status new outcome = ReportsFault (at_start r) status outcome × (new ≡ old)

-- an order as a number
abbrev pub order_number : Ordering → ℤ
order_number Less = negsuc 0
order_number Equal = pos 0
order_number Greater = pos 1

-- the canonical order of two absolute names (RFC 4034 section 6.1) is written, as a number
abbrev pub ComparesNames : List ℕ → List ℕ → ℤ → ℕ → ℤ → Outcome → Type 0
ComparesNames a b old status new outcome =
    (answer : Result (List (List ℕ) × List (List ℕ)) Refusal) × MakesBoth IsAbsoluteOf a b answer × ReportsOfBoth (λ left right order. order ≡ order_number (name_order left right)) answer old status new outcome

-- the name that octets are, or why they are not one: no octets are the relative name of no labels
abbrev pub IsSomeNameOf : List ℕ → Result (UncertainName (Bor (List ℕ))) Refusal → Type 0
IsSomeNameOf octets (Ok name) = ((octets ≡ []) × (name ≡ Relative [])) ⊎ ((octets ≢ []) × MakesUncertain octets (Ok name))
IsSomeNameOf octets (Err r) = (octets ≢ []) × ((e : UncertainDnameError) × MakesUncertain {O = Bor (List ℕ)} octets (Err e) × (r ≡ refusal_of_octets e))

-- whether the last labels of a name are those of the zone, without regard to case
abbrev pub ends_with_name : List (List ℕ) → List (List ℕ) → Bool
ends_with_name name zone = same_name (drop (length name - length zone) name) zone

-- 1 is written if the name ends with the zone's labels, and else 0
abbrev pub ReportsEndsWith : List ℕ → List ℕ → ℕ → ℕ → ℕ → Outcome → Type 0
ReportsEndsWith name zone old status new outcome =
    (answer : Result (UncertainName (Bor (List ℕ)) × UncertainName (Bor (List ℕ))) Refusal) × MakesBoth IsSomeNameOf name zone answer
    × ReportsOfBoth (λ name zone does. does ≡ bit (ends_with_name (labels_of name) (labels_of zone))) answer old status new outcome
