-- Two texts whose entries are the same up to here.
use Rattle.std.proofs.Common.{◌≡◌, ℕ, ◌+◌, ◌-◌, ◌≤◌, true, false, List, [], ◌∷◌, ◌++◌, length, take, refl, sym, ap, ◌∙◌, subst, arith, append-nil, append_assoc, length-append, ◌==◌, cond}
use Rattle.std.specs.Prelude.{Option, Some, None, option_map, map, Result, Ok, Err}
use Rattle.std.proofs.lemmas.List.{map-append}
use Rattle.std.proofs.lemmas.List.Sums.{count_by-le-length, sum_by-take-le}
use Rattle.std.proofs.Math.Seq.{take-append-add}
use Rattle.dns_lexer.specs.declared.pieces.Piece.{Piece}
use Rattle.dns_lexer.specs.declared.pieces.Piece.TheVariants.{Word as WordAt, Quote as QuoteAt, Comment as CommentAt, End as EndAt}
use Rattle.dns_lexer.specs.declared.pieces.Fault.{Fault}
use Rattle.dns_lexer.specs.declared.position.Position.{Position}
use Rattle.dns_lexer.specs.Pieces.{AreOctets, AreItemsOf, end_at, later, moved, moved_fault, moved_piece, piece_start}
use Rattle.dns_lexer.proofs.OctetsOnce.{run_given}
use Rattle.zonetext_lib.specs.declared.diff.Comparison.TheVariants.{Differ}
use Rattle.zonetext_lib.specs.Blocks.{EndsEntry, Holds, Releases, Settled}
use Rattle.zonetext_lib.specs.Compare.{ComesNext, Compares, DifferAt, ContinuesWithPart, part, compared_parts}
use Rattle.zonetext_lib.specs.Comparing.{Compared}
use Rattle.zonetext_lib.specs.Entries.{ComparedPart, Ends, HasTokenEntries, ended_after_pieces, parts, with_tokens}
use Rattle.zonetext_lib.specs.Found.{IsOctetFault, IsZone}
use Rattle.zonetext_lib.specs.Held.{Both, Held}
use Rattle.zone_format.specs.Place.{IsAt, column_of, feeds}
use Rattle.zonetext_lib.proofs.Comparing.{no_common}
use Rattle.zonetext_lib.proofs.Cuts.{ReadOn, first_on, none_given, read_on, take_octets}
use Rattle.zonetext_lib.proofs.Feeds.{column_after, ends_feed, feeds_after}
use Rattle.zonetext_lib.proofs.Following.{parts_back, parts_front, token_back}
use Rattle.zone_format.proofs.Givens.{first_fault, moved_oks, pieces_after, pieces_in, whole_of}
use Rattle.zonetext_lib.proofs.Givens.{fault_of}
use Rattle.zonetext_lib.proofs.Holding.{discard_read}
use Rattle.zonetext_lib.proofs.Made.{given_zone, pieces_moved, zone_is, zone_none, zone_not_bad}
use Rattle.zonetext_lib.proofs.Parts.{ended_append, ended_none, says_ended}

-- the entries with tokens that came before are the parts before what is read on
own_tokens : (before x : List ℕ) (alone : List (Result Piece Fault)) (es : List ComparedPart) (r : ReadOn before x alone) → HasTokenEntries before es → es ≡ compared_parts before None r.front
own_tokens before x alone es r h =
    let end : List Piece = end_at (length before) false ∷ [] in
    sym h.2 ∙ ap (with_tokens false) (zone_is before h.0 (map Ok r.front ++ map Ok end) h.1 r.own ∙ ap (parts before) (pieces_after r.front (map Ok end)))
    ∙ says_ended before r.front end r.ended ∙ append-nil (compared_parts before None r.front)

says_front : (before x : List ℕ) (alone : List (Result Piece Fault)) (es : List ComparedPart) (r : ReadOn before x alone) → HasTokenEntries before es → compared_parts (before ++ x) None r.front ≡ es
says_front before x alone es r h =
    ap (with_tokens false) (parts_front before x None r.front (Ok (end_at (length before) false) ∷ []) r.own.1) ∙ sym (own_tokens before x alone es r h)

says_back : (before x : List ℕ) (ended : Option ℕ) (found : List Piece)
    → compared_parts (before ++ x) (option_map (λ i. length before + i) ended) (map (moved_piece (λ i. length before + i)) found) ≡ compared_parts x ended found
says_back before x None found = ap (with_tokens false) (parts_back before x None found)
says_back before x (Some e) found = ap (with_tokens true) (parts_back before x (Some e) found)

-- the entries with tokens of octets that follow others
tokens_follow : (before x : List ℕ) (es fs : List ComparedPart) → AreOctets before → AreOctets x → EndsEntry before → HasTokenEntries before es → HasTokenEntries x fs → HasTokenEntries (before ++ x) (es ++ fs)
tokens_follow before x es fs b o e h k =
    let read : (given : List (Result Piece Fault)) × AreItemsOf x given = (_, run_given x o) in
    let alone : List (Result Piece Fault) = read.0 in
    let n : ℕ = length before in
    let r = read_on before x alone b o e read.1 in
    let all = map Ok r.front ++ later n alone in
    let none : first_fault all ≡ None = first_on before x alone r ∙ ap (option_map (moved_fault (λ i. n + i))) (zone_none x k.0 alone k.1 read.1) in
    let back : compared_parts (before ++ x) None (pieces_in (later n alone)) ≡ fs =
    ap (compared_parts (before ++ x) None) (pieces_moved (λ i. n + i) alone) ∙ says_back before x None (pieces_in alone) ∙ ap (with_tokens false) (sym (zone_is x k.0 alone k.1 read.1)) ∙ k.2 in
    let shape : compared_parts (before ++ x) None (pieces_in all) ≡ es ++ fs =
    ap (compared_parts (before ++ x) None) (pieces_after r.front (later n alone)) ∙ says_ended (before ++ x) r.front (pieces_in (later n alone)) r.ended
    ∙ ap (λ l. l ++ compared_parts (before ++ x) None (pieces_in (later n alone))) (says_front before x alone es r h) ∙ ap (λ l. es ++ l) back in
    (parts (before ++ x) (pieces_in all), (pieces_in all, whole_of (before ++ x) all r.is.0 none, refl), shape)

-- what is the same is dropped
pub compared_on : (one other : List ℕ) (old new : Both) (cut there : ℕ) (fs : List ComparedPart) → Compared one other old → AreOctets old.first.octets → AreOctets old.second.octets
    → Settled old.first.octets (Ok cut) → Settled old.second.octets (Ok there) → HasTokenEntries (take cut old.first.octets) fs → HasTokenEntries (take there old.second.octets) fs
    → Releases old.first new.first cut → Releases old.second new.second there → Compared one other new
unfolding discard_read
compared_on one other old new cut there fs x oa ob sa sb ha hb ra rb =
    record {
      first = discard_read one old.first new.first cut x.first oa sa ra.octets ra.at ra.position;
      second = discard_read other old.second new.second there x.second ob sb rb.octets rb.at rb.position;
      entries = x.entries ++ fs;
      in_first = tokens_follow x.first.before (take cut old.first.octets) x.entries fs x.first.octets (take_octets cut old.first.octets oa) x.first.ended x.in_first ha;
      in_second = tokens_follow x.second.before (take there old.second.octets) x.entries fs x.second.octets (take_octets there old.second.octets ob) x.second.ended x.in_second hb;
    }

-- the same of all
pub compared_same : (one other : List ℕ) (c : Both) (fs : List ComparedPart) → Compared one other c → AreOctets c.first.octets → AreOctets c.second.octets → HasTokenEntries c.first.octets fs
    → HasTokenEntries c.second.octets fs → (gs : List ComparedPart) × HasTokenEntries one gs × HasTokenEntries other gs
compared_same one other c fs x oa ob ha hb =
    let gs : List ComparedPart = x.entries ++ fs in
    let a = tokens_follow x.first.before c.first.octets x.entries fs x.first.octets oa x.first.ended x.in_first ha in
    let b = tokens_follow x.second.before c.second.octets x.entries fs x.second.octets ob x.second.ended x.in_second hb in
    (gs, subst (λ l. HasTokenEntries l gs) (sym x.first.is) a, subst (λ l. HasTokenEntries l gs) (sym x.second.is) b)

-- a part that comes next
part_back : (before x : List ℕ) (ended : Option ℕ) (p : Piece) → part (before ++ x) (option_map (λ i. length before + i) ended) (moved_piece (λ i. length before + i) p) ≡ part x ended p
part_back before x ended (WordAt p) = token_back before x ended p.start p.end
part_back before x ended (QuoteAt p) = token_back before x ended p.start p.end
part_back before x ended (CommentAt p) = token_back before x ended p.start p.end
part_back before x ended (EndAt p) = refl

start_back : (n : ℕ) (p : Piece) → piece_start (moved_piece (λ i. n + i) p) ≡ n + piece_start p
start_back n (WordAt p) = refl
start_back n (QuoteAt p) = refl
start_back n (CommentAt p) = refl
start_back n (EndAt p) = refl

ended_back : (n : ℕ) (ended : Option ℕ) (ps : List Piece) → ended_after_pieces (option_map (λ i. n + i) ended) (map (moved_piece (λ i. n + i)) ps) ≡ option_map (λ i. n + i) (ended_after_pieces ended ps)
ended_back n ended [] = refl
ended_back n ended (WordAt p ∷ ps) = ended_back n (Some p.end) ps
ended_back n ended (QuoteAt p ∷ ps) = ended_back n (Some p.end) ps
ended_back n ended (CommentAt p ∷ ps) = ended_back n ended ps
ended_back n ended (EndAt p ∷ ps) = ended_back n None ps

next_back : (before x : List ℕ) (ended : Option ℕ) (rest : List (Result Piece Fault)) (e : Option ComparedPart) (at : ℕ) → ComesNext x ended rest e at
    → ComesNext (before ++ x) (option_map (λ i. length before + i) ended) (later (length before) rest) e (length before + at)
next_back before x ended [] e at h = (h.0, ap (λ i. length before + i) h.1 ∙ sym (length-append before x))
next_back before x ended (Ok p ∷ rest) e at h = (
  h.0 ∙ ap Some (sym (part_back before x ended p)),
  ap (λ i. length before + i) h.1 ∙ sym (start_back (length before) p),
  says_back before x ended (p ∷ []) ∙ h.2 ∙ ap (λ t. t ∷ []) (sym (part_back before x ended p)),
)
next_back before x ended (Err f ∷ rest) e at h = absurd h

-- octets that follow continue alike
go_on : (before x : List ℕ) (es common : List ComparedPart) (e : Option ComparedPart) (p q : Position) → AreOctets before → AreOctets x → EndsEntry before → HasTokenEntries before es → ContinuesWithPart x common e p
    → q.line ≡ feeds before + p.line → q.column ≡ p.column → ContinuesWithPart (before ++ x) (es ++ common) e q
go_on before x es common e p q b o ends h g line column =
    let n : ℕ = length before in
    let alone : List (Result Piece Fault) = map Ok g.before ++ g.rest in
    let r = read_on before x alone b o ends (g.reads, g.within) in
    let m : List Piece = map (moved_piece (λ i. n + i)) g.before in
    let shape : map Ok r.front ++ later n alone ≡ map Ok (r.front ++ m) ++ later n g.rest =
    ap (λ l. map Ok r.front ++ l) (map-append (moved (λ i. n + i)) (map Ok g.before) g.rest ∙ ap (λ l. l ++ later n g.rest) (moved_oks (λ i. n + i) g.before))
    ∙ sym (append_assoc (map Ok r.front) (map Ok m) (later n g.rest)) ∙ ap (λ l. l ++ later n g.rest) (sym (map-append Ok r.front m)) in
    let whole : AreItemsOf (before ++ x) (map Ok (r.front ++ m) ++ later n g.rest) = subst (AreItemsOf (before ++ x)) shape r.is in
    let place : take (n + g.at) (before ++ x) ≡ before ++ take g.at x = take-append-add before x g.at in
    let ended : option_map (λ i. n + i) (ended_after_pieces None g.before) ≡ ended_after_pieces None (r.front ++ m) =
    sym (ended_append None r.front m ∙ ap (λ v. ended_after_pieces v m) (ended_none r.front r.ended) ∙ ended_back n None g.before) in
    record {
      before = r.front ++ m;
      rest = later n g.rest;
      reads = whole.0;
      within = whole.1;
      is = says_ended (before ++ x) r.front m r.ended ∙ ap (λ l. l ++ compared_parts (before ++ x) None m) (says_front before x alone es r h)
          ∙ ap (λ l. es ++ l) (says_back before x None g.before ∙ g.is);
      at = n + g.at;
      next = subst (λ v. ComesNext (before ++ x) v (later n g.rest) e (n + g.at)) ended (next_back before x (ended_after_pieces None g.before) g.rest e g.at g.next);
      position = (
        omega (arith, line, g.position.0, ap feeds place, feeds_after before (take g.at x)),
        column ∙ g.position.1 ∙ sym (ap column_of place ∙ column_after before (take g.at x) (ends_feed before ends)),
      );
    }

-- and differ alike
pub compared_differ : (one other : List ℕ) (c : Both) (p q s t : Position) → Compared one other c → AreOctets c.first.octets → AreOctets c.second.octets → DifferAt c.first.octets c.second.octets p q
    → s.line ≡ (c.first.place.position.line - 1) + p.line → s.column ≡ p.column → t.line ≡ (c.second.place.position.line - 1) + q.line → t.column ≡ q.column → Compares one other (Differ s t)
compared_differ one other c p q s t x oa ob d sl sc tl tc =
    let a = x.first.before in
    let b = x.second.before in
    let common : List ComparedPart = x.entries ++ d.common in
    let g = go_on a c.first.octets x.entries d.common d.one p s x.first.octets oa x.first.ended x.in_first d.in_first (omega (arith, sl, x.first.position.0)) sc in
    let h = go_on b c.second.octets x.entries d.common d.other q t x.second.octets ob x.second.ended x.in_second d.in_second (omega (arith, tl, x.second.position.0)) tc in
    let all : DifferAt one other s t = record {
      common = common;
      one = d.one;
      other = d.other;
      in_first = subst (λ l. ContinuesWithPart l common d.one s) (sym x.first.is) g;
      in_second = subst (λ l. ContinuesWithPart l common d.other t) (sym x.second.is) h;
      apart = d.apart;
    } in
    (all, no_common one other s t all)

-- what is stored has no error if all octets have none
pub still_well : (all : List ℕ) (h : Held) (f : Fault) → Holds all h → AreOctets h.octets → IsOctetFault h.octets f → IsZone all → ⊥
still_well all h f x o bad zone = go (first_fault alone) refl
  where
    read : (given : List (Result Piece Fault)) × AreItemsOf h.octets given
    read = (_, run_given h.octets o)

    alone : List (Result Piece Fault)
    alone = read.0

    go : (v : Option Fault) → first_fault alone ≡ v → ⊥
    go None none = zone_not_bad h.octets (parts h.octets (pieces_in alone)) f (pieces_in alone, whole_of h.octets alone read.1.0 none, refl) bad
    go (Some e) some =
        let r = read_on x.before h.octets alone x.octets o x.ended read.1 in
        let there = fault_of (x.before ++ h.octets) _ _ r.is.0 r.is.1 (first_on x.before h.octets alone r ∙ ap (option_map (moved_fault (λ i. length x.before + i))) some) in
        zone_not_bad all (parts all zone.0) _ (zone.0, zone.1, refl) (subst (λ l. IsOctetFault l (moved_fault (λ i. length x.before + i) e)) (sym x.is) there)

-- the line of an octet is at most the number of octets and 1
pub line_within : (octets : List ℕ) (at : ℕ) (p : Position) → IsAt 0 (take at octets) p → p.line ≤ length octets + 1
line_within octets at p i = omega (arith, i.0, sum_by-take-le (λ x. cond (x == 10) 1 0) octets at, count_by-le-length (λ c. c == 10) octets)

abbrev pub both : Held → Held → Both
both first second = record { first = first; second = second }

-- before the first blocks
pub none_compared : (first second : Held) → Holds [] first → Holds [] second → Compared [] [] (both first second)
none_compared first second x y = record {
  first = x;
  second = y;
  entries = [];
  in_first = nothing x.before first.octets x.is;
  in_second = nothing y.before second.octets y.is;
}
  where
    nothing : (before octets : List ℕ) → [] ≡ before ++ octets → HasTokenEntries before []
    nothing [] octets e = (Ends false ∷ [], given_zone [] (end_at 0 false ∷ []) none_given, refl)
    nothing (c ∷ before) octets e = cc
