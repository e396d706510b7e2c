-- How operations are distributed over messages.
use Rattle.std.specs.Prelude.{ℕ, ◌≡◌, ◌<◌, ◌≤◌, ◌+◌, Bool, false, not, ◌&&◌, ◌||◌, List, [], ◌∷◌, ◌++◌, filter, length, map, take, drop}
use Rattle.std.specs.Borrow.{Bor}
use Rattle.std.specs.List.{list_any, sum_by}
use Rattle.dns_octets.specs.Lowered.{same_lowered}
use Rattle.zone_record.specs.Records.{data_of}
use Rattle.dns_wire.specs.Wire.{wire}
use Rattle.zone_record.specs.declared.record.Record.{Record}
use Rattle.zone_update.specs.Operations.{is_apex_ns, is_at, operated}
use Rattle.zone_update.specs.declared.operation.Operation.{Operation}

-- an operation in wire format without compression: the owner, ten octets for type, class, TTL and length, and the RDATA (RFC 1035 section 3.2.1)
abbrev pub wire_size : {N O : Type 0} → Operation N O → ℕ
wire_size o = length (wire (operated o).owner) + 10 + length (data_of (operated o)).octets

abbrev pub wire_sizes : {N O : Type 0} → List (Operation N O) → ℕ
wire_sizes operations = sum_by wire_size operations

-- the values of references
abbrev pub seen : {X : Type 0} → List (Bor X) → List X
seen references = map (λ x. x.now) references

-- the names of the name servers of a zone, in wire format
abbrev pub server_names : {N O : Type 0} → List (List ℕ) → List (Record N O) → List (List ℕ)
server_names apex records = map (λ r. (data_of r).octets) (filter (is_apex_ns apex) records)

-- the owner of an operation is one of these names, in wire format: the apex, and the name servers of the zone
abbrev pub is_of_servers : {N O : Type 0} → List (Bor (List ℕ)) → Operation N O → Bool
is_of_servers names o = list_any (λ name. same_lowered name.now (wire (operated o).owner)) names

-- the operations at the names of the servers, and all others
abbrev pub of_servers : {N O : Type 0} → List (Bor (List ℕ)) → List (Operation N O) → List (Operation N O)
of_servers names operations = filter (is_of_servers names) operations

abbrev pub of_others : {N O : Type 0} → List (Bor (List ℕ)) → List (Operation N O) → List (Operation N O)
of_others names operations = filter (λ o. not (is_of_servers names o)) operations

abbrev pub servers_first : {N O : Type 0} → List (Bor (List ℕ)) → List (Operation N O) → List (Operation N O)
servers_first names operations = of_servers names operations ++ of_others names operations

-- two operations belong into one message: both are at names of the servers, or both have one owner
abbrev pub belong_together : {N O : Type 0} → List (Bor (List ℕ)) → Operation N O → Operation N O → Bool
belong_together names a b = (is_of_servers names a && is_of_servers names b) || is_at (operated a).owner (operated b)

-- the last of some operations and the first of others don't belong together
abbrev pub AreSeparable : {N O : Type 0} → List (Bor (List ℕ)) → List (Operation N O) → List (Operation N O) → Type 0
AreSeparable {N} {O} names before after =
    (front behind : List (Operation N O)) (last next : Operation N O) → before ≡ front ++ last ∷ [] → after ≡ next ∷ behind → belong_together names last next ≡ false

-- they may be cut after `count` operations
abbrev pub IsCutAt : {N O : Type 0} → List (Bor (List ℕ)) → List (Operation N O) → ℕ → Type 0
IsCutAt names operations count = AreSeparable names (take count operations) (drop count operations)

-- the octets of the first operations
abbrev pub first_sizes : {N O : Type 0} → List (Operation N O) → ℕ → ℕ
first_sizes operations count = wire_sizes (take count operations)

-- beyond `count` operations, no beginning of them is apart from the rest and within the limit
abbrev pub IsLongest : {N O : Type 0} → List (Bor (List ℕ)) → ℕ → List (Operation N O) → ℕ → Type 0
IsLongest names limit operations count =
    (n : ℕ) → count < n → n ≤ length operations → AreSeparable names (take n operations) (drop n operations) → limit < wire_sizes (take n operations)

-- operations begin with a part: it is within the limit and apart from those after it, and is the longest such part
pub record IsMessagePart {N O : Type 0} (names : List (Bor (List ℕ))) (limit : ℕ) (part after : List (Operation N O)) : Type 0 where
  pub some : 0 < length part
  pub fits : wire_sizes part ≤ limit
  pub whole : AreSeparable names part after
  pub longest : IsLongest names limit (part ++ after) (length part)

-- operations, one after another, are cut into parts
abbrev pub AreMessageParts : {N O : Type 0} → List (Bor (List ℕ)) → ℕ → List (Operation N O) → List (List (Operation N O)) → Type 0
AreMessageParts names limit operations [] = operations ≡ []
AreMessageParts {N} {O} names limit operations (part ∷ parts) =
    (after : List (Operation N O)) × (operations ≡ part ++ after) × IsMessagePart names limit part after × AreMessageParts names limit after parts

-- after some of the operations, no part is within the limit
pub record ExceedsLimit {N O : Type 0} (names : List (Bor (List ℕ))) (limit : ℕ) (operations : List (Operation N O)) : Type 0 where
  pub before : List (Operation N O)
  pub after : List (Operation N O)
  pub are : operations ≡ before ++ after
  pub some : 0 < length after
  pub none : IsLongest names limit after 0
