-- What is seen after the end of an entry that is not the last.
use Rattle.std.proofs.Common.{ℕ, ◌≡◌, ◌<◌, ◌+◌, ◌-◌, Bool, true, false, List, [], ◌∷◌, ◌++◌, length, take, drop, refl, sym, ap, ◌∙◌, subst, arith, inl, inr, Option, Some, None, Result, Ok, Err}
use Rattle.std.proofs.Common.{add-zero, eq-eqb}
use Rattle.std.proofs.lemmas.Bool.{eqb-true}
use Rattle.std.specs.Prelude.{⊤, ◌==◌, map}
use Rattle.std.proofs.lemmas.List.{append_cancel_left, drop-drop, length-map, take-append-drop}
use Rattle.dns_lexer.specs.declared.pieces.EndOfEntry.{EndOfEntry}
use Rattle.dns_lexer.specs.declared.pieces.Fault.{Fault}
use Rattle.dns_lexer.specs.declared.pieces.Piece.{Piece}
use Rattle.dns_lexer.specs.declared.pieces.Piece.TheVariants.{Word as WordAt, Quote as QuoteAt, Comment as CommentAt, End as EndAt}
use Rattle.dns_lexer.specs.EntryTokens.{EndIs, IsSeen, IsSeenFrom, TokenIs, ends_at, quote_seen, seen_from, word_seen}
use Rattle.dns_lexer.specs.Pieces.{AreOctets, AreItemsOf, between, later, moved}
use Rattle.dns_lexer.specs.Run.{first_blank}
use Rattle.dns_lexer.specs.CursorStates.{AreItemsFrom, blank_at}
use Rattle.dns_lexer.proofs.Blocks.{back_octets, entries_stay, later_later}
use Rattle.dns_lexer.proofs.EntryParts.{starts}
use Rattle.dns_lexer.proofs.OctetsOnce.{given_once}
use Rattle.zone_reader.specs.TextPieces.{seen_later}
use Rattle.zone_reader.proofs.SeenParts.{Parts}

abbrev pub Given : Type 0
Given = List (Result Piece Fault)

-- ---- a syntax error is the last part

abbrev pub FaultIsLast : Given → Type 0
FaultIsLast [] = ⊤
FaultIsLast (Ok p ∷ given) = FaultIsLast given
FaultIsLast (Err f ∷ given) = given ≡ []

nothing_moved : (f : ℕ → ℕ) (given : Given) → map (moved f) given ≡ [] → given ≡ []
nothing_moved f [] e = refl
nothing_moved f (x ∷ given) e = cc

last_of_whole : (f : ℕ → ℕ) (given : Given) (found : List Piece) → map (moved f) given ≡ map Ok found → FaultIsLast given
last_of_whole f [] found e = tt
last_of_whole f (Ok p ∷ given) [] e = cc
last_of_whole f (Ok p ∷ given) (q ∷ found) e = last_of_whole f given found cc
last_of_whole f (Err x ∷ given) [] e = cc
last_of_whole f (Err x ∷ given) (q ∷ found) e = cc

last_of_faulty : (f : ℕ → ℕ) (given : Given) (found : List Piece) (fault : Fault) → map (moved f) given ≡ map Ok found ++ Err fault ∷ [] → FaultIsLast given
last_of_faulty f [] found fault e = tt
last_of_faulty f (Ok p ∷ given) [] fault e = cc
last_of_faulty f (Ok p ∷ given) (q ∷ found) fault e = last_of_faulty f given found fault cc
last_of_faulty f (Err x ∷ given) [] fault e = nothing_moved f given cc
last_of_faulty f (Err x ∷ given) (q ∷ found) fault e = cc

pub given_last : (octets : List ℕ) (given : Given) → AreItemsOf octets given → FaultIsLast given
given_last octets given g = elim g.0 [ inl w ↦ last_of_whole _ given w.found w.is | inr f ↦ last_of_faulty _ given f.found f.fault f.is ]

later_last : (n : ℕ) (given : Given) → FaultIsLast given → FaultIsLast (later n given)
later_last n [] h = tt
later_last n (Ok p ∷ given) h = later_last n given h
later_last n (Err f ∷ given) h = ap (later n) h

-- ---- an end that is seen is one of the parts

pub record EndGiven (octets : List ℕ) (began : ℕ) (ended : Option ℕ) (given : Given) (front : Parts) (e : EndOfEntry) (left : Parts) : Type 0 where
  pub found : List Piece
  pub rest : Given
  pub is : given ≡ map Ok found ++ Ok (EndAt e) ∷ rest
  pub front_is : front ≡ seen_from octets began ended (map Ok found)
  pub left_is : left ≡ seen_from octets e.at None rest

-- no part before it is a syntax error, since something comes after it
pub end_given : (octets : List ℕ) (began : ℕ) (ended : Option ℕ) (given : Given) (front : Parts) (e : EndOfEntry) (left : Parts) → FaultIsLast given → seen_from octets began ended given ≡ front ++ (Ok (EndIs e) ∷ left)
    → EndGiven octets began ended given front e left
end_given octets began ended [] [] e left last is = cc
end_given octets began ended [] (x ∷ front) e left last is = cc
end_given octets began ended (Ok (WordAt p) ∷ given) [] e left last is = cc
end_given octets began ended (Ok (WordAt p) ∷ given) (x ∷ front) e left last is =
    let same : x ≡ Ok (TokenIs (word_seen octets ended p) (blank_at octets began)) = cc in
    let h = end_given octets began (Some p.end) given front e left last cc in
    record { found = WordAt p ∷ h.found; rest = h.rest; is = ap (λ l. Ok (WordAt p) ∷ l) h.is; front_is = λ i. same i ∷ h.front_is i; left_is = h.left_is }
end_given octets began ended (Ok (QuoteAt p) ∷ given) [] e left last is = cc
end_given octets began ended (Ok (QuoteAt p) ∷ given) (x ∷ front) e left last is =
    let same : x ≡ Ok (TokenIs (quote_seen octets ended p) (blank_at octets began)) = cc in
    let h = end_given octets began (Some p.end) given front e left last cc in
    record { found = QuoteAt p ∷ h.found; rest = h.rest; is = ap (λ l. Ok (QuoteAt p) ∷ l) h.is; front_is = λ i. same i ∷ h.front_is i; left_is = h.left_is }
end_given octets began ended (Ok (CommentAt p) ∷ given) front e left last is =
    let h = end_given octets began ended given front e left last is in
    record { found = CommentAt p ∷ h.found; rest = h.rest; is = ap (λ l. Ok (CommentAt p) ∷ l) h.is; front_is = h.front_is; left_is = h.left_is }
end_given octets began ended (Ok (EndAt x) ∷ given) [] e left last is =
    let same : x ≡ e = cc in
    let rest : seen_from octets x.at None given ≡ left = cc in
    record { found = []; rest = given; is = ap (λ y. Ok (EndAt y) ∷ given) same; front_is = refl; left_is = sym rest ∙ ap (λ (y : EndOfEntry). seen_from octets y.at None given) same }
end_given octets began ended (Ok (EndAt x) ∷ given) (y ∷ front) e left last is =
    let same : y ≡ Ok (EndIs x) = cc in
    let h = end_given octets x.at None given front e left last cc in
    record { found = EndAt x ∷ h.found; rest = h.rest; is = ap (λ l. Ok (EndAt x) ∷ l) h.is; front_is = λ i. same i ∷ h.front_is i; left_is = h.left_is }
end_given octets began ended (Err f ∷ given) [] e left last is = cc
end_given octets began ended (Err f ∷ given) (x ∷ front) e left last is =
    let none : seen_from octets began ended given ≡ [] = ap (seen_from octets began ended) last in
    let rest : seen_from octets began ended given ≡ front ++ (Ok (EndIs e) ∷ left) = cc in
    absurd (none_with front (sym none ∙ rest))
  where
    none_with : (front : Parts) → [] ≡ front ++ (Ok (EndIs e) ∷ left) → ⊥
    none_with [] h = cc
    none_with (y ∷ front) h = cc

pub some_given : (octets : List ℕ) (at : ℕ) (rest : Given) (left : Parts) → left ≡ seen_from octets at None rest → 0 < length left → 0 < length rest
some_given octets at [] left is some = omega (arith, ap length is, some)
some_given octets at (x ∷ rest) left is some = omega arith

-- ---- the rest is what is seen from there on

pub pieces_there : (octets : List ℕ) (done : List Piece) (e : EndOfEntry) (rest : Given) → AreOctets octets → AreItemsOf octets (map Ok done ++ Ok (EndAt e) ∷ rest) → 0 < length rest → AreItemsFrom octets e.at rest
pieces_there octets done e rest are g some =
    let behind : List ℕ = drop e.at octets in
    let whole : take e.at octets ++ behind ≡ octets = take-append-drop e.at octets in
    let are_behind : AreOctets behind = back_octets (take e.at octets) behind (subst AreOctets (sym whole) are) in
    let s = starts behind are_behind in
    let stay = entries_stay octets behind done e.at e.begins_blank rest s.0 are are_behind g some s.1 in
    let same = given_once octets (map Ok done ++ Ok (EndAt e) ∷ rest) (map Ok done ++ Ok (EndAt e) ∷ later e.at s.0) g (subst (λ o. AreItemsOf o (map Ok done ++ Ok (EndAt e) ∷ later e.at s.0)) whole stay) in
    let tails = append_cancel_left (map Ok done) (Ok (EndAt e) ∷ rest) (Ok (EndAt e) ∷ later e.at s.0) same in
    let cut : rest ≡ later e.at s.0 = cc in
    (s.0, s.1, cut)

rest_alone : (octets : List ℕ) (began : ℕ) (ended : Option ℕ) (given : Given) (front : Parts) (e : EndOfEntry) (left : Parts) → AreOctets octets → AreItemsOf octets given → EndGiven octets began ended given front e left → 0 < length left
    → (alone : Given) × AreItemsOf (drop e.at octets) alone × (left ≡ seen_from octets e.at None (later e.at alone))
rest_alone octets began ended given front e left are g h some =
    let there = pieces_there octets h.found e h.rest are (subst (AreItemsOf octets) h.is g) (some_given octets e.at h.rest left h.left_is some) in
    (there.0, there.1, h.left_is ∙ ap (seen_from octets e.at None) there.2)

-- ---- the parts of octets alone, at later offsets among others

bools_same : (a b : Bool) → (a ≡ true → b ≡ true) → (b ≡ true → a ≡ true) → a ≡ b
bools_same true b h k = sym (h refl)
bools_same false true h k = k refl
bools_same false false h k = refl

module _ (octets : List ℕ) (n : ℕ) where
  blank_later : (b : ℕ) → blank_at octets (n + b) ≡ blank_at (drop n octets) b
  blank_later b = ap first_blank (sym (drop-drop b n octets))

  between_later : (s e : ℕ) → between octets (n + s) (n + e) ≡ between (drop n octets) s e
  between_later s e = ap (λ k. take k (drop (n + s) octets)) (omega arith) ∙ ap (take (e - s)) (sym (drop-drop s n octets))

  -- between the double quotes
  inner_later : (s e : ℕ) → between octets (n + s + 1) (n + e - 1) ≡ between (drop n octets) (s + 1) (e - 1)
  inner_later s e = ap (λ k. take k (drop (n + s + 1) octets)) (omega arith) ∙ ap (λ k. take (e - 1 - (s + 1)) (drop k octets)) (omega arith) ∙ ap (take (e - 1 - (s + 1))) (sym (drop-drop (s + 1) n octets))

  abbrev ended_later : Option ℕ → Option ℕ
  ended_later None = None
  ended_later (Some e) = Some (n + e)

  ends_later : (ended : Option ℕ) (s : ℕ) → ends_at (ended_later ended) (n + s) ≡ ends_at ended s
  ends_later None s = refl
  ends_later (Some e) s =
      bools_same (n + e == n + s) (e == s) (λ h. let h = eqb-true (n + e) (n + s) h in eq-eqb e s (omega (arith, h))) (λ h. let h = eqb-true e s h in eq-eqb (n + e) (n + s) (omega (arith, h)))

  seen_is_later : (b : ℕ) (ended : Option ℕ) (given : Given) → seen_from octets (n + b) (ended_later ended) (later n given) ≡ map (seen_later n) (seen_from (drop n octets) b ended given)
  seen_is_later b ended [] = refl
  seen_is_later b ended (Ok (WordAt p) ∷ given) =
      λ i. Ok (TokenIs (record { text = between_later p.start p.end i; is_quoted = false; is_adjacent = ends_later ended p.start i; at = n + p.start }) (blank_later b i)) ∷ seen_is_later b (Some p.end) given i
  seen_is_later b ended (Ok (QuoteAt p) ∷ given) =
      λ i. Ok (TokenIs (record { text = inner_later p.start p.end i; is_quoted = true; is_adjacent = ends_later ended p.start i; at = n + p.start }) (blank_later b i)) ∷ seen_is_later b (Some p.end) given i
  seen_is_later b ended (Ok (CommentAt p) ∷ given) = seen_is_later b ended given
  seen_is_later b ended (Ok (EndAt e) ∷ given) = ap (λ l. Ok (EndIs (record { at = n + e.at; begins_blank = e.begins_blank })) ∷ l) (seen_is_later e.at None given)
  seen_is_later b ended (Err f ∷ given) = ap (λ l. seen_later n (Err f) ∷ l) (seen_is_later b ended given)

  -- from the beginning of octets
  pub alone_later : (given : Given) → seen_from octets n None (later n given) ≡ map (seen_later n) (seen_from (drop n octets) 0 None given)
  alone_later given = ap (λ k. seen_from octets k None (later n given)) (sym (add-zero n)) ∙ seen_is_later 0 None given

-- ---- an end among parts that are moved

pub record MovedEnd (n : ℕ) (seen : Parts) (e : EndOfEntry) (left : Parts) : Type 0 where
  pub front : Parts
  pub end : EndOfEntry
  pub rest : Parts
  pub is : seen ≡ front ++ (Ok (EndIs end) ∷ rest)
  pub at : e.at ≡ n + end.at
  pub left_is : left ≡ map (seen_later n) rest

pub moved_end : (n : ℕ) (seen front : Parts) (e : EndOfEntry) (left : Parts) → map (seen_later n) seen ≡ front ++ (Ok (EndIs e) ∷ left) → MovedEnd n seen e left
moved_end n [] [] e left is = cc
moved_end n [] (y ∷ front) e left is = cc
moved_end n (Ok (TokenIs t b) ∷ seen) [] e left is = cc
moved_end n (Ok (EndIs x) ∷ seen) [] e left is =
    let same : record { at = n + x.at; begins_blank = x.begins_blank } ≡ e = cc in
    let rest : map (seen_later n) seen ≡ left = cc in
    record { front = []; end = x; rest = seen; is = refl; at = ap (λ (y : EndOfEntry). y.at) (sym same); left_is = sym rest }
moved_end n (Err f ∷ seen) [] e left is = cc
moved_end n (x ∷ seen) (y ∷ front) e left is =
    let rest : map (seen_later n) seen ≡ front ++ (Ok (EndIs e) ∷ left) = cc in
    let h = moved_end n seen front e left rest in
    record { front = x ∷ h.front; end = h.end; rest = h.rest; is = ap (λ l. x ∷ l) h.is; at = h.at; left_is = h.left_is }

-- what comes after an end is seen from there on
pub rest_there : (octets : List ℕ) (at : ℕ) (front left : Parts) (e : EndOfEntry) → AreOctets octets → IsSeenFrom octets at (front ++ (Ok (EndIs e) ∷ left)) → 0 < length left → IsSeenFrom octets e.at left
rest_there octets at front left e are s some =
    let g = s.1 in
    let rest : List ℕ = drop at octets in
    let are_rest : AreOctets rest = back_octets (take at octets) rest (subst AreOctets (sym (take-append-drop at octets)) are) in
    let seen : Parts = seen_from rest 0 None g.0 in
    let m = moved_end at seen front e left (sym (s.2 ∙ ap (seen_from octets at None) g.2 ∙ alone_later octets at g.0)) in
    let many : 0 < length m.rest = omega (arith, some, ap length m.left_is, length-map m.rest (seen_later at)) in
    let h = rest_alone rest 0 None g.0 m.front m.end m.rest are_rest g.1 (end_given rest 0 None g.0 m.front m.end m.rest (given_last rest g.0 g.1) m.is) many in
    let there : at + m.end.at ≡ e.at = sym m.at in
    let left_is : left ≡ seen_from octets (at + m.end.at) None (later (at + m.end.at) h.0) =
    m.left_is ∙ ap (map (seen_later at)) h.2 ∙ sym (seen_is_later octets at m.end.at None (later m.end.at h.0)) ∙ ap (seen_from octets (at + m.end.at) None) (later_later at m.end.at h.0) in
    subst (λ k. IsSeenFrom octets k left) there
    (later (at + m.end.at) h.0, (h.0, subst (λ o. AreItemsOf o h.0) (drop-drop m.end.at at octets) h.1, refl), left_is)

pub seen_from_once : (octets : List ℕ) (at : ℕ) (a b : Parts) → IsSeenFrom octets at a → IsSeenFrom octets at b → a ≡ b
seen_from_once octets at a b s o =
    let g = s.1 in
    let h = o.1 in
    let same : s.0 ≡ o.0 = g.2 ∙ ap (later at) (given_once (drop at octets) g.0 h.0 g.1 h.1) ∙ sym h.2 in
    s.2 ∙ ap (seen_from octets at None) same ∙ sym o.2

pub seen_alone : (octets : List ℕ) (at : ℕ) (parts : Parts) → IsSeenFrom octets at parts → (alone : Parts) × IsSeen (drop at octets) alone × (parts ≡ map (seen_later at) alone)
seen_alone octets at parts s =
    let g = s.1 in
    (seen_from (drop at octets) 0 None g.0, (g.0, g.1, refl), s.2 ∙ ap (seen_from octets at None) g.2 ∙ alone_later octets at g.0)
