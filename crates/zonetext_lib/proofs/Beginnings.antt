-- Octets that can still become a zone file.
use Rattle.std.proofs.Common.{◌≡◌, ℕ, ◌+◌, ◌≤◌, false, List, [], ◌++◌, length, refl, sym, ap, ◌∙◌, subst, arith, append-nil, length-append}
use Rattle.std.specs.Prelude.{Option, Some, None, option_map, map, Result, Ok, encode_utf8_all}
use Rattle.dns_lexer.specs.declared.pieces.Piece.{Piece}
use Rattle.dns_lexer.specs.declared.pieces.Fault.{Fault}
use Rattle.dns_lexer.specs.Pieces.{AreOctets, AreItemsOf, moved_fault}
use Rattle.dns_lexer.specs.Splitting.{Entries, Splits}
use Rattle.dns_lexer.specs.Viable.{IsViable}
use Rattle.dns_lexer.proofs.Early.{viable_octets_at_end}
use Rattle.dns_lexer.proofs.OctetsOnce.{run_given}
use Rattle.dns_lexer.proofs.PieceSplit.{pieces_split}
use Rattle.zonetext_lib.specs.Blocks.{EndsEntry, Holds}
use Rattle.zonetext_lib.specs.Found.{IsOctetFault, IsZone}
use Rattle.zonetext_lib.specs.Held.{Held}
use Rattle.zonetext_lib.proofs.Cuts.{first_on, read_on, zone_on}
use Rattle.zone_format.proofs.Givens.{all_ok, first_fault, first_of_oks, pieces_in, whole_of}
use Rattle.zonetext_lib.proofs.Givens.{fault_of}

-- nothing has to follow what splits
split_viable : (text : List ℕ) (e : Entries) → Splits text e → IsViable text
split_viable text e s = record {
  tail = [];
  is_tail = record { zeros = 0; few = omega arith; quoted = false; lined = false; open_blocks = 0; is = refl };
  found = e;
  splits = subst (λ l. Splits l e) (sym (append-nil text)) s;
}

zone_viable : (octets : List ℕ) → IsZone octets → IsViable (encode_utf8_all octets)
zone_viable octets z = split_viable _ _ (pieces_split _ _ z.1)

pub given_viable : (octets : List ℕ) (found : List Piece) → AreItemsOf octets (map Ok found) → IsViable (encode_utf8_all octets)
given_viable octets found g = zone_viable octets (pieces_in (map Ok found), whole_of octets (map Ok found) g.0 (first_of_oks found))

-- more octets may resolve an error at the end, and no other
pub fault_viable : (octets : List ℕ) (f : Fault) → IsOctetFault octets f → length octets ≤ f.at → IsViable (encode_utf8_all octets)
fault_viable octets f bad h = (viable_octets_at_end octets f.at bad.is.bad).0 h

viable_fault : (octets : List ℕ) (f : Fault) → IsOctetFault octets f → IsViable (encode_utf8_all octets) → length octets ≤ f.at
viable_fault octets f bad v = (viable_octets_at_end octets f.at bad.is.bad).1 v

viable_on : (before octets : List ℕ) → AreOctets before → AreOctets octets → EndsEntry before → IsViable (encode_utf8_all octets) → IsViable (encode_utf8_all (before ++ octets))
viable_on before octets b o ended v = go _ (run_given octets o) _ refl
  where
    go : (given : List (Result Piece Fault)) → AreItemsOf octets given → (k : Option Fault) → first_fault given ≡ k → IsViable (encode_utf8_all (before ++ octets))
    go given g None e = zone_viable (before ++ octets) (zone_on before octets (pieces_in given) b o ended (subst (AreItemsOf octets) (all_ok given e) g))
    go given g (Some f) e =
        let r = read_on before octets given b o ended g in
        let some = first_on before octets given r ∙ ap (option_map (moved_fault (λ i. length before + i))) e in
        let bad = fault_of (before ++ octets) _ _ r.is.0 r.is.1 some in
        let at = viable_fault octets f (fault_of octets given f g.0 g.1 e) v in
        fault_viable (before ++ octets) _ bad (omega (arith, length-append before octets, at))

-- if what is stored can, all can
pub held_viable : (all : List ℕ) (h : Held) → Holds all h → AreOctets h.octets → IsViable (encode_utf8_all h.octets) → IsViable (encode_utf8_all all)
held_viable all h x o v = subst (λ l. IsViable (encode_utf8_all l)) (sym x.is) (viable_on x.before h.octets x.octets o x.ended v)
