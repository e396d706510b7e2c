-- The output for octets that follow the end of an entry, and for octets with an error that stays.
use Rattle.std.proofs.Common.{◌≡◌, ℕ, zero, suc, ◌+◌, ◌<◌, Bool, true, false, List, [], ◌∷◌, ◌++◌, length, take, drop, refl, sym, ap, ◌∙◌, subst, arith, inl, inr}
use Rattle.std.proofs.Common.{append-nil, append_assoc, length-append, take_all}
use Rattle.std.specs.Prelude.{◌⊎◌, Option, Some, None, option_map, map, Result, Ok, Err, encode_utf8_all}
use Rattle.std.proofs.lemmas.List.{map-append, take-append-drop}
use Rattle.dns_lexer.specs.declared.pieces.Piece.{Piece}
use Rattle.dns_lexer.specs.declared.pieces.Piece.TheVariants.{Word as WordAt, Quote as QuoteAt, Comment as CommentAt, End as EndAt}
use Rattle.dns_lexer.specs.declared.pieces.Fault.{Fault}
use Rattle.dns_lexer.specs.Lexeme.{Lexeme, Blank, Line, Open, Close, Note, Word, Quote}
use Rattle.dns_lexer.specs.Pieces.{AreOctets, EachWithin, AreItemsOf, begins_blank, tokens_by_entry, end_at, later, moved, moved_fault, moved_piece, pieces, place_of}
use Rattle.dns_lexer.proofs.Blocks.{faults_stay}
use Rattle.dns_lexer.proofs.OctetsOnce.{given_once, run_given}
use Rattle.dns_lexer.proofs.PieceSplit.{pieces_split}
use Rattle.zonetext_lib.specs.declared.layout.Gap.{Gap}
use Rattle.zonetext_lib.specs.declared.tokens.Form.{Form}
use Rattle.zonetext_lib.specs.declared.writer.Output.{Output}
use Rattle.zonetext_lib.specs.declared.writer.Output.TheVariants.{Rows, Lines}
use Rattle.zonetext_lib.specs.Blocks.{EndsEntry, EndsEntryAt, Settled}
use Rattle.zonetext_lib.specs.Entries.{ComparedPart, Ends, HasEntries, parts, parts_after}
use Rattle.zonetext_lib.specs.Found.{IsOctetFault}
use Rattle.zonetext_lib.specs.Layout.{laid_out}
use Rattle.zone_format.specs.Place.{feeds}
use Rattle.zonetext_lib.specs.Tokens.{Appended, rows_after}
use Rattle.zonetext_lib.specs.Writing.{EndsAt, FaultAfter, HasLines, WritesOutput, Until, has_end}
use Rattle.zone_format.proofs.Givens.{first_fault, first_of_oks, moved_oks, pieces_after, pieces_in, whole_of}
use Rattle.zonetext_lib.proofs.Givens.{fault_of}
use Rattle.zonetext_lib.proofs.Cuts.{EndedFront, cut_given, fault_after, first_on, none_given, read_on}
use Rattle.zonetext_lib.proofs.Following.{lines_joined, parts_back, parts_front, rows_follow, rows_front}
use Rattle.zonetext_lib.proofs.Parts.{parts_append, parts_ended, rows_append}
use Rattle.zonetext_lib.proofs.Once.{entries_once}

-- octets of the grammar have no error
pub zone_not_bad : (octets : List ℕ) (es : List ComparedPart) (f : Fault) → HasEntries octets es → IsOctetFault octets f → ⊥
zone_not_bad octets es f h bad =
    let text = encode_utf8_all octets in
    let found = map (moved_piece (place_of octets)) h.0 in
    bad.is.bad.splits_not (tokens_by_entry text found) (pieces_split text found h.1)

pub zone_none : (octets : List ℕ) (es : List ComparedPart) (given : List (Result Piece Fault)) → HasEntries octets es → AreItemsOf octets given → first_fault given ≡ None
zone_none octets es given h g = go (first_fault given) refl
  where
    go : (o : Option Fault) → first_fault given ≡ o → first_fault given ≡ None
    go None none = none
    go (Some f) some = absurd (zone_not_bad octets es f h (fault_of octets given f g.0 g.1 some))

pub zone_is : (octets : List ℕ) (es : List ComparedPart) (given : List (Result Piece Fault)) → HasEntries octets es → AreItemsOf octets given → es ≡ parts octets (pieces_in given)
zone_is octets es given h g = entries_once octets es (parts octets (pieces_in given)) h (pieces_in given, whole_of octets given g.0 (zone_none octets es given h g), refl)

pub given_zone : (octets : List ℕ) (found : List Piece) → AreItemsOf octets (map Ok found) → HasEntries octets (parts octets (pieces_in (map Ok found)))
given_zone octets found g = (pieces_in (map Ok found), whole_of octets (map Ok found) g.0 (first_of_oks found), refl)

-- and some part
ends_some : (ls : List Lexeme) (at d : ℕ) (b : Bool) → has_end (pieces at d b ls) ≡ true
ends_some [] at d b = refl
ends_some (Open ∷ ls) at d b = ends_some ls _ (suc d) b
ends_some (Close ∷ ls) at zero b = ends_some ls _ zero b
ends_some (Close ∷ ls) at (suc d) b = ends_some ls _ d b
ends_some (Line r ∷ ls) at zero b = refl
ends_some (Line r ∷ ls) at (suc d) b = ends_some ls _ (suc d) b
ends_some (Blank x ∷ ls) at d b = ends_some ls _ d b
ends_some (Note cs ∷ ls) at d b = ends_some ls _ d b
ends_some (Word y ss ∷ ls) at d b = ends_some ls _ d b
ends_some (Quote ss ∷ ls) at d b = ends_some ls _ d b

has_moved : (g : ℕ → ℕ) (ps : List Piece) → has_end (map (moved_piece g) ps) ≡ has_end ps
has_moved g [] = refl
has_moved g (WordAt p ∷ ps) = has_moved g ps
has_moved g (QuoteAt p ∷ ps) = has_moved g ps
has_moved g (CommentAt p ∷ ps) = has_moved g ps
has_moved g (EndAt p ∷ ps) = refl

end_part : (octets : List ℕ) (ended : Option ℕ) (ps : List Piece) → has_end ps ≡ true → 0 < length (parts_after octets ended ps)
end_part octets ended [] h = cc
end_part octets ended (WordAt p ∷ ps) h = omega arith
end_part octets ended (QuoteAt p ∷ ps) h = omega arith
end_part octets ended (CommentAt p ∷ ps) h = end_part octets ended ps h
end_part octets ended (EndAt p ∷ ps) h = omega arith

some_part : (octets : List ℕ) (es : List ComparedPart) → HasEntries octets es → 0 < length es
some_part octets es h =
    let ends : has_end h.0 ≡ true = sym (has_moved (place_of octets) h.0) ∙ ap has_end (sym h.1.placed) ∙ ends_some h.1.lexemes 0 0 (begins_blank h.1.lexemes) in
    subst (λ l. 0 < length l) h.2 (end_part octets None h.0 ends)

-- entries that have ended, laid out
lines_own : (before written : List ℕ) (gap : Gap) (front : List Piece) → AreItemsOf before (map Ok front ++ Ok (end_at (length before) false) ∷ []) → HasLines before gap written
    → written ≡ laid_out gap false (parts before front ++ Ends false ∷ [])
lines_own before written gap front g (inl h) =
    let end : List Piece = end_at (length before) false ∷ [] in
    h.2 ∙ ap (laid_out gap false) (zone_is before h.0 (map Ok front ++ map Ok end) h.1 g ∙ ap (parts before) (pieces_after front (map Ok end)) ∙ parts_append before None front end)
lines_own before written gap front g (inr h) =
    let f = h.1 in
    let same = given_once before _ (map Ok front ++ Ok (end_at (length before) false) ∷ []) f.given g in
    let no : Some f.fault ≡ None = sym (fault_after f.ended (map Ok f.last ++ Err f.fault ∷ []) ∙ fault_after f.last (Err f.fault ∷ [])) ∙ ap first_fault same
    ∙ fault_after front (Ok (end_at (length before) false) ∷ []) in
    cc

ends_join : (front ended : List Piece) (n at : ℕ) → EndedFront front → EndsAt ended at → (there : ℕ) × EndsAt (front ++ map (moved_piece (λ i. n + i)) ended) there
ends_join front ended n at e (inl none) = go e
  where
    shape : front ++ map (moved_piece (λ i. n + i)) ended ≡ front
    shape = ap (λ l. front ++ map (moved_piece (λ i. n + i)) l) none.0 ∙ append-nil front

    go : EndedFront front → (there : ℕ) × EndsAt (front ++ map (moved_piece (λ i. n + i)) ended) there
    go (inl z) = (0, inl (shape ∙ z, refl))
    go (inr k) = (k.1, inr (k.0, k.2, shape ∙ k.3))
ends_join front ended n at e (inr k) =
    let g : Piece → Piece = moved_piece (λ i. n + i) in (
      n + at,
      inr (
        front ++ map g k.0,
        k.1,
        ap (λ l. front ++ map g l) k.2 ∙ ap (λ l. front ++ l) (map-append g k.0 (end_at at k.1 ∷ [])) ∙ sym (append_assoc front (map g k.0) (end_at (n + at) k.1 ∷ [])),
      ),
    )

pub pieces_moved : (g : ℕ → ℕ) (given : List (Result Piece Fault)) → pieces_in (map (moved g) given) ≡ map (moved_piece g) (pieces_in given)
pieces_moved g [] = refl
pieces_moved g (Ok p ∷ given) = ap (λ l. moved_piece g p ∷ l) (pieces_moved g given)
pieces_moved g (Err f ∷ given) = pieces_moved g given

lines_zone : (before x written more : List ℕ) (gap : Gap) (es : List ComparedPart) → AreOctets before → AreOctets x → EndsEntry before → HasLines before gap written → HasEntries x es
    → more ≡ laid_out gap false es → HasLines (before ++ x) gap (written ++ more)
lines_zone before x written more gap es b o e w h k =
    let read : (given : List (Result Piece Fault)) × AreItemsOf x given = (_, run_given x o) in
    let alone : List (Result Piece Fault) = read.0 in
    let g : AreItemsOf x alone = read.1 in
    let r = read_on before x alone b o e g in
    let all = map Ok r.front ++ later (length before) alone in
    let none : first_fault all ≡ None = first_on before x alone r ∙ ap (option_map (moved_fault (λ i. length before + i))) (zone_none x es alone h g) in
    let own = lines_own before written gap r.front r.own w in
    let last : List (Result Piece Fault) = Ok (end_at (length before) false) ∷ [] in
    let moved_on : pieces_in (later (length before) alone) ≡ map (moved_piece (λ i. length before + i)) (pieces_in alone) = pieces_moved (λ i. length before + i) alone in
    let shape : parts (before ++ x) (pieces_in all) ≡ parts before r.front ++ es =
    ap (parts (before ++ x)) (pieces_after r.front (later (length before) alone)) ∙ parts_ended (before ++ x) r.front (pieces_in (later (length before) alone)) r.ended
    ∙ ap (λ l. l ++ parts (before ++ x) (pieces_in (later (length before) alone))) (parts_front before x None r.front last r.own.1)
    ∙ ap (λ l. parts before r.front ++ l) (ap (parts (before ++ x)) moved_on ∙ parts_back before x None (pieces_in alone) ∙ sym (zone_is x es alone h g)) in
    inl (
      parts (before ++ x) (pieces_in all),
      (pieces_in all, whole_of (before ++ x) all r.is.0 none, refl),
      ap (λ l. l ++ more) own ∙ ap (λ l. laid_out gap false (parts before r.front ++ Ends false ∷ []) ++ l) k
          ∙ lines_joined gap before r.front es r.ended (some_part x es h) ∙ ap (laid_out gap false) (sym shape),
    )

lines_bad : (before x written more : List ℕ) (gap : Gap) (at : ℕ) (f : FaultAfter x at) → AreOctets before → AreOctets x → EndsEntry before → HasLines before gap written
    → more ≡ laid_out gap false (parts x f.ended ++ Ends false ∷ []) → HasLines (before ++ x) gap (written ++ more)
lines_bad before x written more gap at f b o e w k =
    let g : Piece → Piece = moved_piece (λ i. length before + i) in
    let bad : List (Result Piece Fault) = Err f.fault ∷ [] in
    let alone = map Ok f.ended ++ (map Ok f.last ++ bad) in
    let r = read_on before x alone b o e f.given in
    let own = lines_own before written gap r.front r.own w in
    let end : List (Result Piece Fault) = Ok (end_at (length before) false) ∷ [] in
    let there = ends_join r.front f.ended (length before) at r.ended f.ends in
    let fault : Fault = moved_fault (λ i. length before + i) f.fault in
    let tail : List (Result Piece Fault) = map Ok (map g f.last) ++ Err fault ∷ [] in
    let on : later (length before) alone ≡ map Ok (map g f.ended) ++ tail =
    map-append (moved (λ i. length before + i)) (map Ok f.ended) (map Ok f.last ++ bad)
    ∙ ap (λ l. l ++ later (length before) (map Ok f.last ++ bad)) (moved_oks (λ i. length before + i) f.ended)
    ∙ ap (λ l. map Ok (map g f.ended) ++ l) (map-append (moved (λ i. length before + i)) (map Ok f.last) bad ∙ ap (λ l. l ++ Err fault ∷ []) (moved_oks (λ i. length before + i) f.last)) in
    let shape : map Ok r.front ++ later (length before) alone ≡ map Ok (r.front ++ map g f.ended) ++ tail =
    ap (λ l. map Ok r.front ++ l) on ∙ sym (append_assoc (map Ok r.front) (map Ok (map g f.ended)) tail) ∙ ap (λ l. l ++ tail) (sym (map-append Ok r.front (map g f.ended))) in
    let same : parts (before ++ x) (r.front ++ map g f.ended) ≡ parts before r.front ++ parts x f.ended =
    parts_ended (before ++ x) r.front (map g f.ended) r.ended ∙ ap (λ l. l ++ parts (before ++ x) (map g f.ended)) (parts_front before x None r.front end r.own.1)
    ∙ ap (λ l. parts before r.front ++ l) (parts_back before x None f.ended) in
    let some : 0 < length (parts x f.ended ++ Ends false ∷ []) = omega (arith, length-append (parts x f.ended) (Ends false ∷ [])) in
    inr (
      there.0,
      record {
        ended = r.front ++ map g f.ended;
        last = map g f.last;
        fault = fault;
        given = subst (AreItemsOf (before ++ x)) shape r.is;
        ends = there.1;
        none = has_moved (λ i. length before + i) f.last ∙ f.none;
      },
      ap (λ l. l ++ more) own ∙ ap (λ l. laid_out gap false (parts before r.front ++ Ends false ∷ []) ++ l) k
          ∙ lines_joined gap before r.front (parts x f.ended ++ Ends false ∷ []) r.ended some
          ∙ ap (laid_out gap false) (sym (append_assoc (parts before r.front) (parts x f.ended) (Ends false ∷ [])) ∙ ap (λ l. l ++ Ends false ∷ []) (sym same)),
    )

pub makes_follow : (output : Output) (before x written more : List ℕ) → AreOctets before → AreOctets x → EndsEntry before → WritesOutput output before 0 written → WritesOutput output x (feeds before) more
    → WritesOutput output (before ++ x) 0 (written ++ more)
makes_follow (Rows form) before x written more b o e w m = rows_follow before x written more form b o e w m
makes_follow (Lines gap) before x written more b o e w (inl h) = lines_zone before x written more gap h.0 b o e w h.1 h.2
makes_follow (Lines gap) before x written more b o e w (inr h) = lines_bad before x written more gap h.0 h.1 b o e w h.2

-- the output before an error that stays
lines_stay : (octets rest written : List ℕ) (gap : Gap) (found : List Piece) (f : Fault) → AreOctets octets → AreOctets rest → AreItemsOf octets (map Ok found ++ Err f ∷ []) → f.at < length octets
    → HasLines octets gap written → HasLines (octets ++ rest) gap written
lines_stay octets rest written gap found f o r g less (inl h) =
    let no : Some f ≡ None = sym (fault_after found (Err f ∷ [])) ∙ zone_none octets h.0 (map Ok found ++ Err f ∷ []) h.1 g in
    cc
lines_stay octets rest written gap found f o r g less (inr h) =
    let k = h.1 in
    let bad : List (Result Piece Fault) = Err k.fault ∷ [] in
    let same = given_once octets _ (map Ok found ++ Err f ∷ []) k.given g in
    let faults : Some k.fault ≡ Some f =
    sym (fault_after k.ended (map Ok k.last ++ bad) ∙ fault_after k.last bad) ∙ ap first_fault same ∙ fault_after found (Err f ∷ []) in
    let is : k.fault ≡ f = some_same faults in
    let near : k.fault.at < length octets = subst (λ (e : Fault). e.at < length octets) (sym is) less in
    let shape : map Ok k.ended ++ (map Ok k.last ++ bad) ≡ map Ok (k.ended ++ k.last) ++ bad =
    sym (append_assoc (map Ok k.ended) (map Ok k.last) bad) ∙ ap (λ l. l ++ bad) (sym (map-append Ok k.ended k.last)) in
    let on = faults_stay octets rest (k.ended ++ k.last) k.fault o r (subst (AreItemsOf octets) shape k.given) near in
    inr (
      h.0,
      record { ended = k.ended; last = k.last; fault = k.fault; given = subst (AreItemsOf (octets ++ rest)) (sym shape) on; ends = k.ends; none = k.none },
      h.2 ∙ ap (λ l. laid_out gap false (l ++ Ends false ∷ [])) (sym (parts_front octets rest None k.ended (map Ok k.last ++ bad) k.given.1)),
    )
  where
    some_same : {a b : Fault} → Some a ≡ Some b → a ≡ b
    some_same e = cc

rows_stay : (octets rest written : List ℕ) (form : Form) (found : List Piece) (f : Fault) → AreOctets octets → AreOctets rest → AreItemsOf octets (map Ok found ++ Err f ∷ []) → f.at < length octets
    → Appended octets 0 form [] written → Appended (octets ++ rest) 0 form [] written
rows_stay octets rest written form found f o r g less a =
    let bad : List (Result Piece Fault) = Err f ∷ [] in
    let same : a.0 ≡ map Ok found ++ bad = given_once octets a.0 (map Ok found ++ bad) a.1 g in (
      map Ok found ++ bad,
      faults_stay octets rest found f o r g less,
      a.2 ∙ ap (rows_after octets 0 form None) same ∙ rows_append octets 0 form None found bad ∙ ap (λ l. l ++ []) (sym (rows_front octets rest form None found bad g.1))
          ∙ sym (rows_append (octets ++ rest) 0 form None found bad),
    )

pub made_stays : (output : Output) (octets rest written : List ℕ) (found : List Piece) (f : Fault) → AreOctets octets → AreOctets rest → AreItemsOf octets (map Ok found ++ Err f ∷ [])
    → f.at < length octets → WritesOutput output octets 0 written → WritesOutput output (octets ++ rest) 0 written
made_stays (Rows form) octets rest written found f o r g less m = rows_stay octets rest written form found f o r g less m
made_stays (Lines gap) octets rest written found f o r g less m = lines_stay octets rest written gap found f o r g less m

-- nothing is made of no octets
pub none_made : (output : Output) → WritesOutput output [] 0 []
none_made (Rows form) = (Ok (end_at 0 false) ∷ [], none_given, refl)
none_made (Lines gap) = inl (parts [] (end_at 0 false ∷ []), given_zone [] (end_at 0 false ∷ []) none_given, refl)

-- entries before an error are of the grammar
ended_given : (octets : List ℕ) (at : ℕ) (f : FaultAfter octets at) → AreOctets octets → AreItemsOf (take at octets) (map Ok f.ended ++ Ok (end_at at false) ∷ [])
ended_given octets at f o = go f.ends
  where
    go : EndsAt f.ended at → AreItemsOf (take at octets) (map Ok f.ended ++ Ok (end_at at false) ∷ [])
    go (inl z) = subst (λ l. AreItemsOf (take at octets) (map Ok l ++ Ok (end_at at false) ∷ [])) (sym z.0) (subst (λ n. AreItemsOf (take n octets) (Ok (end_at n false) ∷ [])) (sym z.1) none_given)
    go (inr k) =
        let tail : List (Result Piece Fault) = map Ok f.last ++ Err f.fault ∷ [] in
        let some : 0 < length tail = omega (arith, length-append (map {B = Result Piece Fault} Ok f.last) (Err f.fault ∷ [])) in
        let end : List (Result Piece Fault) = Ok (end_at at k.1) ∷ [] in
        let shape : map Ok f.ended ≡ map Ok k.0 ++ end = ap (map Ok) k.2 ∙ map-append Ok k.0 (end_at at k.1 ∷ []) in
        let here : AreItemsOf octets (map Ok k.0 ++ Ok (end_at at k.1) ∷ tail) = subst (AreItemsOf octets) (ap (λ l. l ++ tail) shape ∙ append_assoc (map Ok k.0) end tail) f.given in
        subst (AreItemsOf (take at octets)) (sym (ap (λ l. l ++ Ok (end_at at false) ∷ []) shape ∙ append_assoc (map Ok k.0) end (Ok (end_at at false) ∷ [])))
        (cut_given octets k.0 at k.1 tail o here some)

pub lines_until : (octets : List ℕ) (at : ℕ) (gap : Gap) (es : List ComparedPart) → AreOctets octets → Until octets at → HasEntries (take at octets) es → HasLines octets gap (laid_out gap false es)
lines_until octets at gap es o (inl u) h =
    inl (es, subst (λ l. HasEntries l es) (ap (λ n. take n octets) u.2 ∙ take_all (length octets) octets (omega arith)) h, refl)
lines_until octets at gap es o (inr f) h =
    let end : List Piece = end_at at false ∷ [] in
    let g = ended_given octets at f o in
    let own : es ≡ parts (take at octets) f.ended ++ Ends false ∷ [] =
    zone_is (take at octets) es (map Ok f.ended ++ map Ok end) h g ∙ ap (parts (take at octets)) (pieces_after f.ended (map Ok end)) ∙ parts_append (take at octets) None f.ended end in
    let within : EachWithin (length (take at octets)) (map Ok f.ended ++ map Ok end) = g.1 in
    let same : parts octets f.ended ≡ parts (take at octets) f.ended =
    ap (λ l. parts l f.ended) (sym (take-append-drop at octets)) ∙ parts_front (take at octets) (drop at octets) None f.ended (map Ok end) within in
    inr (at, f, ap (laid_out gap false) (own ∙ ap (λ l. l ++ Ends false ∷ []) (sym same)))

pub until_well : (octets : List ℕ) (at : ℕ) (f : Fault) → AreOctets octets → Until octets at → IsOctetFault (take at octets) f → ⊥
until_well octets at f o (inl u) bad =
    let all : take at octets ≡ octets = ap (λ n. take n octets) u.2 ∙ take_all (length octets) octets (omega arith) in
    zone_not_bad octets _ f (given_zone octets u.0 u.1) (subst (λ l. IsOctetFault l f) all bad)
until_well octets at f o (inr k) bad =
    let end : List Piece = end_at at false ∷ [] in
    let g = subst (AreItemsOf (take at octets)) (sym (map-append Ok k.ended end)) (ended_given octets at k o) in
    zone_not_bad (take at octets) _ f (given_zone (take at octets) (k.ended ++ end) g) bad

pub none_before : (output : Output) (before octets : List ℕ) → [] ≡ before ++ octets → WritesOutput output before 0 []
none_before output [] octets e = none_made output
none_before output (x ∷ before) octets e = cc

-- octets up to a cut have no error
pub cut_whole : (octets : List ℕ) (at : ℕ) → AreOctets octets → Settled octets (Ok at) → (found : List Piece) × AreItemsOf (take at octets) (map Ok found)
cut_whole octets at o s = go s.1
  where
    go : (at ≡ 0) ⊎ EndsEntryAt octets at → (found : List Piece) × AreItemsOf (take at octets) (map Ok found)
    go (inl z) = (end_at 0 false ∷ [], subst (λ n. AreItemsOf (take n octets) (Ok (end_at 0 false) ∷ [])) (sym z) none_given)
    go (inr k) =
        let last : List Piece = end_at at k.1 ∷ end_at at false ∷ [] in
        (k.0 ++ last, subst (AreItemsOf (take at octets)) (sym (map-append Ok k.0 last)) (cut_given octets k.0 at k.1 k.2 o k.3 k.4))

pub whole_not_bad : (octets : List ℕ) (f : Fault) → (found : List Piece) × AreItemsOf octets (map Ok found) → IsOctetFault octets f → ⊥
whole_not_bad octets f w bad = zone_not_bad octets _ f (given_zone octets w.0 w.1) bad
