-- What was written of all octets.
use Rattle.std.proofs.Common.{◌≡◌, ℕ, ◌+◌, ◌-◌, List, [], ◌∷◌, ◌++◌, length, take, sym, ap, ◌∙◌, subst, arith, append_assoc, length-append}
use Rattle.std.specs.Prelude.{map, Option, Some, None, Result, Ok, Err}
use Rattle.std.proofs.lemmas.List.{map-append}
use Rattle.dns_lexer.specs.declared.pieces.Piece.{Piece}
use Rattle.dns_lexer.specs.declared.pieces.Fault.{Fault}
use Rattle.dns_lexer.specs.Pieces.{AreOctets, AreItemsOf, later, moved, moved_fault, moved_piece}
use Rattle.zonetext_lib.specs.declared.writer.Output.{Output}
use Rattle.zonetext_lib.specs.Blocks.{Releases, Settled}
use Rattle.zonetext_lib.specs.Held.{Held, Writing}
use Rattle.zone_format.specs.Place.{IsAt, feeds}
use Rattle.zonetext_lib.specs.Writing.{MadeAfter, WritesOutput, WritesAll, WritesSettled, Wrote}
use Rattle.dns_lexer.proofs.Blocks.{both_octets}
use Rattle.zonetext_lib.proofs.Cuts.{read_on, take_octets}
use Rattle.zone_format.proofs.Givens.{moved_oks}
use Rattle.zonetext_lib.proofs.Holding.{added, discard_read}
use Rattle.zonetext_lib.proofs.Made.{made_stays, makes_follow}

abbrev pub writing : Output → Held → Writing
writing output held = record { output = output; held = held }

-- a block is held too
pub wrote_more : (all block written : List ℕ) (output : Output) (old new : Held) → Wrote all written (writing output old) → new.octets ≡ old.octets ++ block → new.place ≡ old.place
    → Wrote (all ++ block) written (writing output new)
unfolding added
wrote_more all block written output old new x is place = record { held = added all block old new x.held is place; made = x.made }

counted : (output : Output) (octets more before : List ℕ) (h : Held) (lines : ℕ) → IsAt 0 before h.place.position → lines ≡ h.place.position.line - 1 → WritesOutput output octets lines more
    → WritesOutput output octets (feeds before) more
counted output octets more before h lines at is m = let same : lines ≡ feeds before = omega (arith, is, at.0) in subst (λ n. WritesOutput output octets n more) same m

-- what could be cut off was written
pub wrote_on : (all written more : List ℕ) (output : Output) (old new : Held) (cut lines : ℕ) → Wrote all written (writing output old) → AreOctets old.octets → Settled old.octets (Ok cut)
    → lines ≡ old.place.position.line - 1 → WritesOutput output (take cut old.octets) lines more → Releases old new cut → Wrote all (written ++ more) (writing output new)
unfolding discard_read
wrote_on all written more output old new cut lines x o s is m r = record {
  held = discard_read all old new cut x.held o s r.octets r.at r.position;
  made = makes_follow output x.held.before (take cut old.octets) written more x.held.octets (take_octets cut old.octets o) x.held.ended x.made
      (counted output (take cut old.octets) more x.held.before old lines x.held.position is m);
}

-- all was written
pub wrote_rest : (all written more : List ℕ) (output : Output) (h : Held) (lines : ℕ) → Wrote all written (writing output h) → AreOctets h.octets → lines ≡ h.place.position.line - 1
    → WritesOutput output h.octets lines more → WritesOutput output all 0 (written ++ more)
wrote_rest all written more output h lines x o is m =
    subst (λ l. WritesOutput output l 0 (written ++ more)) (sym x.held.is)
    (makes_follow output x.held.before h.octets written more x.held.octets o x.held.ended x.made (counted output h.octets more x.held.before h lines x.held.position is m))

-- what is held was written after the rest
pub writes_all : (w : Writing) (octets from to : List ℕ) (output : Output) (h : Held) (lines : ℕ) → writing output h ≡ w → octets ≡ h.octets → AreOctets octets
    → lines ≡ h.place.position.line - 1 → MadeAfter output octets lines from to → WritesAll w from to
writes_all w octets from to output h lines is held o at m = λ all written x.
    let made : WritesOutput output h.octets lines m.0 = subst (λ l. WritesOutput output l lines m.0) held m.2 in
    let whole = wrote_rest all written m.0 output h lines (subst (Wrote all written) (sym is) x) (subst AreOctets held o) at made in
    (m.0, m.1, subst (λ (w : Writing). WritesOutput w.output all 0 (written ++ m.0)) is whole)

-- and stays, if an error does
pub wrote_bad : (all written more rest : List ℕ) (output : Output) (h : Held) (lines : ℕ) (f : Fault) → Wrote all written (writing output h) → AreOctets h.octets → AreOctets rest
    → lines ≡ h.place.position.line - 1 → Settled h.octets (Err f) → WritesOutput output h.octets lines more → WritesOutput output (all ++ rest) 0 (written ++ more)
wrote_bad all written more rest output h lines f x o r is s m =
    let before : List ℕ = x.held.before in
    let n : ℕ = length before in
    let g : Piece → Piece = moved_piece (λ i. n + i) in
    let bad : List (Result Piece Fault) = Err f ∷ [] in
    let on : List (Result Piece Fault) = Err (moved_fault (λ i. n + i) f) ∷ [] in
    let k = read_on before h.octets (map Ok s.0 ++ bad) x.held.octets o x.held.ended s.1 in
    let shape : map Ok k.front ++ later n (map Ok s.0 ++ bad) ≡ map Ok (k.front ++ map g s.0) ++ on =
    ap (λ l. map Ok k.front ++ l) (map-append (moved (λ i. n + i)) (map Ok s.0) bad ∙ ap (λ l. l ++ on) (moved_oks (λ i. n + i) s.0))
    ∙ sym (append_assoc (map Ok k.front) (map Ok (map g s.0)) on) ∙ ap (λ l. l ++ on) (sym (map-append Ok k.front (map g s.0))) in
    let whole : AreItemsOf (before ++ h.octets) (map Ok (k.front ++ map g s.0) ++ on) = subst (AreItemsOf (before ++ h.octets)) shape k.is in
    let made = subst (λ l. WritesOutput output l 0 (written ++ more)) x.held.is (wrote_rest all written more output h lines x o is m) in
    subst (λ l. WritesOutput output (l ++ rest) 0 (written ++ more)) (sym x.held.is)
    (made_stays output (before ++ h.octets) rest (written ++ more) (k.front ++ map g s.0) (moved_fault (λ i. n + i) f)
    (both_octets before h.octets x.held.octets o) r whole (omega (arith, s.2, length-append before h.octets)) made)

-- what was written up to a cut, or nothing
pub settled_some : (output : Output) (octets : List ℕ) (lines : ℕ) (old new : List ℕ) (o : Option ℕ) (at : ℕ) → o ≡ Some at → WritesSettled output octets lines old new (Ok o)
    → Settled octets (Ok at) × MadeAfter output (take at octets) lines old new
settled_some output octets lines old new o at e h = subst (λ k. WritesSettled output octets lines old new (Ok k)) e h

pub settled_none : (output : Output) (octets : List ℕ) (lines : ℕ) (old new : List ℕ) (o : Option ℕ) → o ≡ None → WritesSettled output octets lines old new (Ok o) → new ≡ old
settled_none output octets lines old new o e h = subst (λ k. WritesSettled output octets lines old new (Ok k)) e h
