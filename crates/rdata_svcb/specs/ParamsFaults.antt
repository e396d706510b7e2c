-- Why octets are not service parameters, and why one can't be added.
use Rattle.std.specs.Prelude.{◌≡◌, ◌==◌, if◌then◌else◌, ℕ, ◌+◌, ◌-◌, ◌<◌, ◌≤◌, All, None, IsSome, List, [], ◌∷◌, ◌++◌, length, take, drop, Result, Ok, Err}
use Rattle.std.specs.Option.{option_map_or}
use Rattle.rdata_svcb.specs.Params.{value_at, params_from, params_wire, params_of, IsParams, IsNoParams, IsCutOff, IsOutOfOrder}
use Rattle.rdata_svcb.specs.Values.{IsParamValue, first_missing}
use Rattle.rdata_values.specs.declared.error.ErrorKind.{ErrorKind}
use Rattle.rdata_values.specs.declared.error.ErrorKind.TheVariants.{ShortParams, ParamOrder, ParamValue, MissingParam, LongValue, RepeatedParam}

-- why octets are not the wire format of parameters
abbrev pub IsFormFault : ErrorKind → List ℕ → Type 0
IsFormFault ShortParams octets = IsNoParams octets × IsCutOff octets
IsFormFault (ParamOrder key) octets = IsNoParams octets × IsOutOfOrder key octets
IsFormFault other octets = ⊥

-- a value that its key allows beside these parameters
abbrev pub IsRight : List (ℕ × List ℕ) → ℕ × List ℕ → Type 0
IsRight params p = IsParamValue params p.0 p.1

abbrev pub AreAllRight : List (ℕ × List ℕ) → Type 0
AreAllRight params = All (IsRight params) params

-- the first of the parameters whose value is wrong has this key and value
abbrev pub IsFirstWrongParam : ℕ → List ℕ → List (ℕ × List ℕ) → Type 0
IsFirstWrongParam key value params = (front back : List (ℕ × List ℕ)) × (params ≡ front ++ (key, value) ∷ back) × All (IsRight params) front × ¬ IsParamValue params key value

abbrev pub IsFirstWrong : ℕ → List (ℕ × List ℕ) → Type 0
IsFirstWrong key params = (value : List ℕ) × IsFirstWrongParam key value params

-- the error of a value: `mandatory` lists a key that is missing, and the error has the first such key; or any other error
abbrev pub value_fault : List (ℕ × List ℕ) → ℕ → List ℕ → ErrorKind
value_fault params key value = if key == 0 then option_map_or (λ missing. MissingParam missing) (first_missing params value) (ParamValue 0) else ParamValue key

-- octets are parameters, of which the first wrong one has this fault
abbrev pub HasValueFault : ErrorKind → List ℕ → Type 0
HasValueFault fault octets =
    IsParams octets × ((key : ℕ) × (value : List ℕ) × IsFirstWrongParam key value (params_of octets) × (fault ≡ value_fault (params_of octets) key value))

-- octets that are parameters, with right values
abbrev pub AreRightParams : List ℕ → Type 0
AreRightParams octets = IsParams octets × AreAllRight (params_of octets)

-- why octets are not parameters with right values
abbrev pub IsParamsFault : ErrorKind → List ℕ → Type 0
IsParamsFault ShortParams octets = IsNoParams octets × IsCutOff octets
IsParamsFault (ParamOrder key) octets = IsNoParams octets × IsOutOfOrder key octets
IsParamsFault (ParamValue key) octets = HasValueFault (ParamValue key) octets
IsParamsFault (MissingParam key) octets = HasValueFault (MissingParam key) octets
IsParamsFault other octets = ⊥

-- the offset at which a key belongs among parameters, if they don't have it
abbrev pub FindsPlace : List (ℕ × List ℕ) → ℕ → List ℕ → Result ℕ ErrorKind → Type 0
FindsPlace params key octets (Ok place) =
    (value_at params key ≡ None) × (take place octets ≡ params_from (value_at params) 0 key)
    × (drop place octets ≡ params_from (value_at params) (key + 1) (65536 - (key + 1)))
FindsPlace params key octets (Err e) = (e ≡ RepeatedParam) × IsSome (value_at params key)

-- one parameter more, whose value fits and whose key is new
abbrev pub SettlesLast : List (ℕ × List ℕ) → ℕ → List ℕ → List ℕ → Result (Unit {0}) ErrorKind → Type 0
SettlesLast params key value octets (Ok done) = (length value < 65536) × (value_at params key ≡ None) × (octets ≡ params_wire (params ++ (key, value) ∷ []))
SettlesLast params key value octets (Err LongValue) = 65536 ≤ length value
SettlesLast params key value octets (Err RepeatedParam) = (length value < 65536) × IsSome (value_at params key)
SettlesLast params key value octets (Err other) = ⊥
