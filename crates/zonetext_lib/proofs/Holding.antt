-- The stored part of all octets.
use Rattle.std.proofs.Common.{◌≡◌, ℕ, ◌+◌, ◌≤◌, List, [], ◌++◌, length, take, drop, sym, ap, ◌∙◌, subst, arith, inl, inr, append-nil, append_assoc, length-append, length-take-le}
use Rattle.std.specs.Prelude.{Some, None, Ok, Err}
use Rattle.std.proofs.lemmas.List.{take-append-drop}
use Rattle.dns_lexer.specs.declared.pieces.Fault.{Fault}
use Rattle.dns_lexer.specs.Pieces.{AreOctets, moved_fault}
use Rattle.zonetext_lib.specs.Blocks.{EndsEntry, EndsWith, Holds, Settled}
use Rattle.zonetext_lib.specs.Found.{IsFound, IsFoundAfter, IsOctetFault, IsZone}
use Rattle.zonetext_lib.specs.Held.{Held}
use Rattle.zone_format.specs.Place.{IsAt}
use Rattle.zonetext_lib.specs.declared.check.Found.{Found}
use Rattle.zone_format.specs.declared.place.LocatedOffset.{LocatedOffset}
use Rattle.zonetext_lib.proofs.After.{found_on}
use Rattle.dns_lexer.proofs.Blocks.{both_octets}
use Rattle.zonetext_lib.proofs.Cuts.{take_octets, ended_on, zone_on, fault_on, fault_alone, fault_stays_on}

abbrev pub held_at : List ℕ → LocatedOffset → ℕ → Held
held_at octets place left = record { octets = octets; place = place; left = left }

-- an error of what is held, with its positions
abbrev pub Located : Held → Fault → Found → Type 0
Located h f r = IsFoundAfter h.place h.octets f r

located_on : (all more : List ℕ) (h : Held) (f : Fault) (r : Found) (x : Holds all h) → f.at ≤ length h.octets → Located h f r
    → IsOctetFault (x.before ++ (h.octets ++ more)) (moved_fault (λ i. length x.before + i) f) → IsFound (all ++ more) 0 r
located_on all more h f r x within l fault =
    let is : r.fault ≡ moved_fault (λ i. length x.before + i) f = subst (λ n. r.fault ≡ moved_fault (λ i. n + i) f) x.at l.fault in
    let whole : x.before ++ (h.octets ++ more) ≡ all ++ more = sym (append_assoc x.before h.octets more) ∙ ap (λ k. k ++ more) (sym x.is) in
    subst (λ k. IsFound k 0 r) whole (found_on x.before h.octets more f r x.ended within fault is (l.position x.before x.position) (l.opened x.before x.position))

-- it stays whatever follows
pub halted : (all more : List ℕ) (h : Held) (f : Fault) (r : Found) → Holds all h → AreOctets h.octets → AreOctets more → Settled h.octets (Err f) → Located h f r → IsFound (all ++ more) 0 r
halted all more h f r x o m s l =
    located_on all more h f r x (omega (arith, s.2)) l (fault_stays_on x.before h.octets more s.0 f x.octets o m x.ended s.1 s.2)

-- or is found at the end
pub ended_bad : (all : List ℕ) (h : Held) (f : Fault) (r : Found) → Holds all h → AreOctets h.octets → EndsWith h.octets (Some f) → Located h f r → IsFound all 0 r
ended_bad all h f r x o e l =
    let last = fault_on x.before h.octets e.0 f x.octets o x.ended e.1 in
    let within = (fault_alone h.octets e.0 f e.1).within in
    subst (λ k. IsFound k 0 r) (append-nil all)
    (located_on all [] h f r x within l (subst (λ k. IsOctetFault (x.before ++ k) (moved_fault (λ i. length x.before + i) f)) (sym (append-nil h.octets)) last))

pub ended_well : (all : List ℕ) (h : Held) → Holds all h → AreOctets h.octets → EndsWith h.octets None → IsZone all
ended_well all h x o e = subst IsZone (sym x.is) (zone_on x.before h.octets e.0 x.octets o x.ended e.1)

-- one more block
unfoldable pub added : (all block : List ℕ) (old new : Held) → Holds all old → new.octets ≡ old.octets ++ block → new.place ≡ old.place → Holds (all ++ block) new
added all block old new x is place = record {
  before = x.before;
  is = ap (λ l. l ++ block) x.is ∙ append_assoc x.before old.octets block ∙ ap (λ l. x.before ++ l) (sym is);
  octets = x.octets;
  ended = x.ended;
  at = ap (λ p. p.at) place ∙ x.at;
  position = subst (λ p. IsAt 0 x.before p.position) (sym place) x.position;
}

pub ended_at : (before octets : List ℕ) (cut : ℕ) → AreOctets before → AreOctets octets → EndsEntry before → Settled octets (Ok cut) → EndsEntry (before ++ take cut octets)
ended_at before octets cut b o e s = elim s.1 [
  | inl none ↦ subst (λ n. EndsEntry (before ++ take n octets)) (sym none) (subst EndsEntry (sym (append-nil before)) e)
  | inr c ↦ ended_on before octets cut b o e s.0 c
]

-- octets are dropped
unfoldable pub discard_read : (all : List ℕ) (old new : Held) (cut : ℕ) → Holds all old → AreOctets old.octets → Settled old.octets (Ok cut)
    → new.octets ≡ drop cut old.octets → new.place.at ≡ old.place.at + cut
    → ((before : List ℕ) → IsAt 0 before old.place.position → IsAt 0 (before ++ take cut old.octets) new.place.position) → Holds all new
discard_read all old new cut x o s is at position = record {
  before = x.before ++ take cut old.octets;
  is = x.is ∙ ap (λ l. x.before ++ l) (sym (take-append-drop cut old.octets)) ∙ sym (append_assoc x.before (take cut old.octets) (drop cut old.octets))
      ∙ ap (λ l. (x.before ++ take cut old.octets) ++ l) (sym is);
  octets = both_octets x.before (take cut old.octets) x.octets (take_octets cut old.octets o);
  ended = ended_at x.before old.octets cut x.octets o x.ended s;
  at = omega (arith, at, x.at, length-append x.before (take cut old.octets), length-take-le cut old.octets s.0);
  position = position x.before x.position;
}
