-- The rest to lay out.
use Rattle.std.proofs.Common.{◌≡◌, ℕ, length, subst, Bool, true, false, ◌||◌, ◌&&◌, not, List, [], ◌∷◌, ◌++◌, refl, sym, ap, ◌∙◌, append_assoc}
use Rattle.std.specs.Prelude.{if◌then◌else◌}
use Rattle.std.specs.Prelude.{map, Option, Result, Ok, Err, Some, None, IfSome, encode_utf8_all}
use Rattle.std.specs.Option.{is_some}
use Rattle.dns_lexer.specs.declared.pieces.Piece.{Piece}
use Rattle.dns_lexer.specs.declared.pieces.Piece.TheVariants.{Word as WordAt, Quote as QuoteAt, Comment as CommentAt, End as EndAt}
use Rattle.dns_lexer.specs.declared.pieces.Fault.{Fault}
use Rattle.dns_lexer.specs.Pieces.{ReadsOctets, EachWithin, moved, next_blank, place_of}
use Rattle.dns_lexer.proofs.PieceSplit.{closes, given_close}
use Rattle.zone_format.proofs.Givens.{first_fault, pieces_in}
use Rattle.zonetext_lib.specs.Entries.{parts_after}
use Rattle.zonetext_lib.specs.declared.layout.Gap.{Gap}
use Rattle.zonetext_lib.specs.Entries.{ComparedPart, Token, Ends}
use Rattle.zonetext_lib.specs.Layout.{gap_if, feed_before, laid_out, leads}

abbrev pub feed_if : Bool → List ℕ
feed_if b = if b then 10 ∷ [] else []

abbrev pub owed : Bool → List ComparedPart → List ℕ
owed true es = feed_before es
owed false es = []

abbrev pub left : Gap → Bool → Bool → List ComparedPart → List ℕ
left gap feed inside es = owed feed es ++ laid_out gap inside es

owed_some : (feed : Bool) (e : ComparedPart) (es : List ComparedPart) → owed feed (e ∷ es) ≡ feed_if feed
owed_some true e es = refl
owed_some false e es = refl

pub token_left : (gap : Gap) (feed inside g apart : Bool) (t out : List ℕ) (es : List ComparedPart) → apart ≡ (not g && (inside || leads es))
    → (out ++ feed_if feed ++ gap_if gap apart ++ t) ++ left gap false true es ≡ out ++ left gap feed inside (Token g t ∷ es)
token_left gap feed inside g apart t out es e =
    let r : List ℕ = laid_out gap true es in
    append_assoc (out ++ feed_if feed ++ gap_if gap apart) t r ∙ append_assoc (out ++ feed_if feed) (gap_if gap apart) (t ++ r) ∙ append_assoc out (feed_if feed) (gap_if gap apart ++ (t ++ r))
    ∙ ap (λ b. out ++ (feed_if feed ++ (gap_if gap b ++ (t ++ r)))) e
    ∙ ap (λ f. out ++ (f ++ (gap_if gap (not g && (inside || leads es)) ++ (t ++ r)))) (sym (owed_some feed (Token g t) es))

pub end_left : (gap : Gap) (feed inside b : Bool) (out : List ℕ) (es : List ComparedPart)
    → (out ++ feed_if feed ++ gap_if gap (not inside && b)) ++ left gap true false es ≡ out ++ left gap feed inside (Ends b ∷ es)
end_left gap feed inside b out es =
    let r : List ℕ = feed_before es ++ laid_out gap false es in
    append_assoc (out ++ feed_if feed) (gap_if gap (not inside && b)) r ∙ append_assoc out (feed_if feed) (gap_if gap (not inside && b) ++ r)
    ∙ ap (λ f. out ++ (f ++ (gap_if gap (not inside && b) ++ r))) (sym (owed_some feed (Ends b) es))

-- the last item is an entry's end, or an error
moved_closes : (f : ℕ → ℕ) (t : Bool) (given : List (Result Piece Fault)) → closes t (map (moved f) given) ≡ closes t given
moved_closes f t [] = refl
moved_closes f t (Ok (WordAt p) ∷ given) = moved_closes f false given
moved_closes f t (Ok (QuoteAt p) ∷ given) = moved_closes f false given
moved_closes f t (Ok (CommentAt p) ∷ given) = moved_closes f t given
moved_closes f t (Ok (EndAt p) ∷ given) = moved_closes f true given
moved_closes f t (Err e ∷ given) = refl

pub octets_close : (octets : List ℕ) (given : List (Result Piece Fault)) → ReadsOctets octets given → closes true given ≡ true
octets_close octets given r = sym (moved_closes (place_of octets) true given) ∙ given_close (encode_utf8_all octets) (map (moved (place_of octets)) given) r

-- inside an entry it is known whether it began with a blank
pub blank_known : (octets : List ℕ) (ended : Option ℕ) (given : List (Result Piece Fault)) (b : Bool) → closes false given ≡ true → first_fault given ≡ None
    → IfSome (next_blank given) (λ x. b ≡ x) → b ≡ leads (parts_after octets ended (pieces_in given))
blank_known octets ended [] b c n h = cc
blank_known octets ended (Ok (WordAt p) ∷ given) b c n h = blank_known octets (Some p.end) given b c n h
blank_known octets ended (Ok (QuoteAt p) ∷ given) b c n h = blank_known octets (Some p.end) given b c n h
blank_known octets ended (Ok (CommentAt p) ∷ given) b c n h = blank_known octets ended given b c n h
blank_known octets ended (Ok (EndAt p) ∷ given) b c n h = h
blank_known octets ended (Err f ∷ given) b c n h = cc

pub left_none : (gap : Gap) (feed inside : Bool) → left gap feed inside [] ≡ []
left_none gap true inside = refl
left_none gap false inside = refl

-- a token's turn: the rest to lay out after it
pub token_turn : (gap : Gap) (octets whole out token pushed : List ℕ) (feed g lead apart : Bool) (ended next : Option ℕ) (p : Piece) (given pieces rest : List (Result Piece Fault))
    → pieces ≡ Ok p ∷ rest → ((ps : List Piece) → parts_after octets ended (p ∷ ps) ≡ Token g token ∷ parts_after octets next ps) → closes (not (is_some ended)) (Ok p ∷ rest) ≡ closes false rest
    → first_fault pieces ≡ first_fault given → EachWithin (length octets) pieces → closes (not (is_some ended)) pieces ≡ true
    → (first_fault given ≡ None → out ++ left gap feed (is_some ended) (parts_after octets ended (pieces_in pieces)) ≡ whole)
    → IfSome (next_blank rest) (λ b. lead ≡ b) → apart ≡ (not g && (is_some ended || lead)) → pushed ≡ out ++ feed_if feed ++ gap_if gap apart ++ token
    → (first_fault rest ≡ first_fault given) × EachWithin (length octets) rest × (closes false rest ≡ true)
    × (first_fault given ≡ None → pushed ++ left gap false true (parts_after octets next (pieces_in rest)) ≡ whole)
token_turn gap octets whole out token pushed feed g lead apart ended next p given pieces rest now shown one fault within closed laid blank owes is =
    let here : closes false rest ≡ true = sym one ∙ sym (ap (closes (not (is_some ended))) now) ∙ closed in
    let first : first_fault rest ≡ first_fault given = ap first_fault (sym now) ∙ fault in
    let es : List ComparedPart = parts_after octets next (pieces_in rest) in (
      first,
      (subst (EachWithin (length octets)) now within).1,
      here,
      λ none.
          let known : lead ≡ leads es = blank_known octets next rest lead here (first ∙ none) blank in
          ap (λ o. o ++ left gap false true es) is ∙ token_left gap feed (is_some ended) g apart token out es (owes ∙ ap (λ b. not g && (is_some ended || b)) known)
          ∙ ap (λ l. out ++ left gap feed (is_some ended) l) (sym (shown (pieces_in rest))) ∙ ap (λ l. out ++ left gap feed (is_some ended) (parts_after octets ended (pieces_in l))) (sym now) ∙ laid none,
    )
