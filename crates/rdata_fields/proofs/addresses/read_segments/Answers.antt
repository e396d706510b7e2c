use Rattle.std.proofs.Common.{◌≡◌, ℕ, suc, ◌+◌, ◌-◌, ◌<◌, ◌==◌, nat_lt, true, false, List, [], ◌∷◌, ◌++◌, length, take, Some, None, ◌∙◌, arith, rules, append-nil, append_assoc, ne_eqb, set, get_or, ap, sym, length-set, drop-set-lt, drop-drop, refl}
use Rattle.std.proofs.lemmas.Bool.{ltb-true}
use Rattle.std.proofs.lemmas.List.{places, take_more_set}
use Rattle.std.proofs.lemmas.Bool.Decides.{nat_tests}
use Rattle.std.proofs.lemmas.Grind.{common_steps}
use Rattle.std.specs.Net.Addr.{segments_of, ipv4_octets}
use Rattle.std.specs.Net.Reader.{read_segments, after, read_separator, read_ipv4_if, read_segment}
use Rattle.rdata_fields.proofs.AddressReads.{ipv4_if_fits, ipv4_if_none, ipv4_without_group, two_segments}
use Rattle.rdata_fields.proofs.addresses.read_segments.Goals as goal

-- one turn of the loop, at the index i of n
module _ (n i : ℕ) (text s front : List ℕ) (within : i < n) (so_far : read_segments n true text ≡ after front (read_segments (n - i) (i == 0) s)) where
  room : n - i ≡ suc (n - (i + 1))
  room = omega arith

  fits : nat_lt 0 (n - (i + 1)) ≡ nat_lt (i + 1) n
  fits = grind (arith, nat_tests)

  no_separator : None ≡ read_separator (i == 0) s → read_segments n true text ≡ (front, false, s)
  unfolding read_segments
  no_separator e = so_far ∙ rw (room, ← e, append-nil)

  module _ (group : List ℕ) (led : Some group ≡ read_separator (i == 0) s) where
    ipv4 : (o rest : List ℕ) → Some (o, rest) ≡ read_ipv4_if (nat_lt (i + 1) n) group → read_segments n true text ≡ (front ++ segments_of o, true, rest)
    unfolding read_segments
    ipv4 o rest e = so_far ∙ rw (room, ← led, fits, ← e)

    no_segment : None ≡ read_segment group → read_segments n true text ≡ (front, false, s)
    unfolding read_segments
    no_segment e = so_far ∙ rw (room, ← led, fits, ipv4_if_none (nat_lt (i + 1) n) group (ipv4_without_group group (sym e)), ← e, append-nil)

    segment : (v : ℕ) (rest : List ℕ) → Some (v, rest) ≡ read_segment group → None ≡ read_ipv4_if (nat_lt (i + 1) n) group → read_segments n true text ≡ after (front ++ v ∷ []) (read_segments (n - (i + 1)) (i + 1 == 0) rest)
    unfolding read_segments
    segment v rest e no_ipv4 =
        let later : (i + 1 == 0) ≡ false = ne_eqb _ _ (omega arith) in
        so_far ∙ rw (room, ← led, fits, ← no_ipv4, ← e, later, append_assoc)

pub returns-in_default-clause-value : goal.returns-in_default-clause-value
returns-in_default-clause-value c = no_separator _ _ _ _ _ c.loop-i-test.true c.loop-i.invariant.0 c.in_default.ensures

pub returns-in_default-read_segment-clause-value : goal.returns-in_default-read_segment-clause-value
returns-in_default-read_segment-clause-value c =
    no_segment _ _ _ _ _ c.loop-i-test.true c.loop-i.invariant.0 _ c.in-Some.ensures c.in_default-read_segment.ensures

-- two writes put a list of two after the front
two_more : (xs pair : List ℕ) (i : ℕ) → i + 1 < length xs → length pair ≡ 2 → take (i + 2) (set (set xs i (get_or pair 0 0)) (i + 1) (get_or pair 1 0)) ≡ take i xs ++ pair
two_more xs [] i within two = absurd (omega arith)
two_more xs (a ∷ []) i within two = absurd (omega arith)
two_more xs (a ∷ b ∷ x ∷ more) i within two = absurd (omega arith)
two_more xs (a ∷ b ∷ []) i within two =
    let twice : i + 2 ≡ i + 1 + 1 = omega arith in
    let second : i + 1 < length (set xs i a) = rw length-set within in
    rw (twice, take_more_set (set xs i a) (i + 1) b second, take_more_set xs i a (omega arith), append_assoc)

pub returns-in-Some-read_ipv4_from-clause-value : goal.returns-in-Some-read_ipv4_from-clause-value
returns-in-Some-read_ipv4_from-clause-value c =
    let found = c.in-Some-read_ipv4_from.ensures (_, sym c.in-Some-read_segment.ensures) in
    let read = ipv4 _ _ _ _ _ c.loop-i-test.true c.loop-i.invariant.0 _ c.in-Some.ensures _ _ found in
    let below : c.loop-i.i + 1 < length c.args.segments.now = ltb-true _ _ (ipv4_if_fits (nat_lt (c.loop-i.i + 1) (length c.args.segments.now)) c.in-Some.group.now _ found) in
    let within : c.loop-i.i + 1 < length c.loop-i.segments = omega arith in
    let high = c.from_be_bytes.result in
    let low = c.from_be_bytes-in-Some-read_ipv4_from.result in
    let put = two_more c.loop-i.segments (high ∷ low ∷ []) c.loop-i.i within refl in
    let four : length c.octets.result ≡ 4 = search rules in
    let first = c.from_be_bytes.ensures in
    let second = c.from_be_bytes-in-Some-read_ipv4_from.ensures in
    let pair : segments_of (ipv4_octets c.in-Some-read_ipv4_from.address) ≡ high ∷ low ∷ [] = ap segments_of (sym c.octets.ensures) ∙ two_segments c.octets.result four ∙ rw (first, second) in
    read ∙ ap (λ xs. (xs, true, c.in-Some-read_ipv4_from.end.now)) (ap (λ p. take c.loop-i.i c.loop-i.segments ++ p) pair ∙ sym put)

pub returns-in-Some-read_ipv4_from-clause-others : goal.returns-in-Some-read_ipv4_from-clause-others
returns-in-Some-read_ipv4_from-clause-others c =
    let i = c.loop-i.i in
    let first : i < i + 2 = omega arith in
    let second : i + 1 < i + 2 = omega arith in
    rw (drop-set-lt, drop-set-lt, ← drop-drop 2 i, ← drop-drop 2 i c.args.segments.now, c.loop-i.invariant.1)

pub loop-i-preserved : goal.loop-i-preserved
loop-i-preserved c =
    let within : c.loop-i.i < length c.loop-i.segments = omega arith in
    let group = c.in-Some-read_segment.ensures in
    let read = segment _ _ _ _ _ c.loop-i-test.true c.loop-i.invariant.0 _ c.in-Some.ensures _ _ group (c.in_default-read_ipv4_from.ensures (_, sym group)) in
    (rw (take_more_set c.loop-i.segments c.loop-i.i c.in-Some-read_segment.segment within) read, grind (arith, common_steps, places))

pub returns-clause-value : goal.returns-clause-value
unfolding read_segments
returns-clause-value c =
    let none : length c.args.segments.now - c.loop-i.i ≡ 0 = omega arith in
    let all : length c.args.segments.now ≡ c.loop-i.i = omega arith in
    c.loop-i.invariant.0 ∙ rw (none, append-nil, ← all)
