-- Entries that are laid out while the settled ones are found.
use Rattle.std.proofs.Common.{◌≡◌, ℕ, ◌<◌, ◌≤◌, Bool, true, false, ◌||◌, ◌&&◌, not, List, [], ◌∷◌, ◌++◌, length, take, refl, sym, ap, ◌∙◌, subst, arith, inl, inr, append-nil, append_assoc, length-append, take_all}
use Rattle.std.specs.Prelude.{◌⊎◌, map, Option, Some, None, Result, Ok, IfSome}
use Rattle.std.specs.Option.{is_some}
use Rattle.std.proofs.lemmas.List.{map-append, take-append-le}
use Rattle.dns_lexer.specs.declared.pieces.Piece.{Piece}
use Rattle.dns_lexer.specs.declared.pieces.Piece.TheVariants.{Word as WordAt, Quote as QuoteAt, Comment as CommentAt, End as EndAt}
use Rattle.dns_lexer.specs.declared.pieces.EndOfEntry.{EndOfEntry}
use Rattle.dns_lexer.specs.declared.pieces.Fault.{Fault}
use Rattle.dns_lexer.specs.Pieces.{AreOctets, EachWithin, AreItemsOf, end_at, next_blank}
use Rattle.zonetext_lib.specs.declared.layout.Gap.{Gap}
use Rattle.zonetext_lib.specs.Blocks.{Settled}
use Rattle.zonetext_lib.specs.Entries.{ComparedPart, Token, Ends, parts, parts_after}
use Rattle.zonetext_lib.specs.Layout.{gap_if, feed_before, laid_out, leads}
use Rattle.zonetext_lib.specs.Writing.{HasLines, has_end}
use Rattle.zonetext_lib.proofs.Passing.{within_after}
use Rattle.zonetext_lib.proofs.Same.{none_entries, none_settled, up_to}

-- these were passed, and whatever part of the rest is laid out after them, what is out is its beginning
pub record Laid (gap : Gap) (octets old : List ℕ) (given left : List (Result Piece Fault)) (out : List ℕ) (ended : Option ℕ) : Type 0 where
  pub passed : List Piece
  pub is : given ≡ map Ok passed ++ left
  pub on : (rest : List Piece) (more : List (Result Piece Fault)) (tail : List ComparedPart) → left ≡ map Ok rest ++ more → (is_some ended ≡ true → has_end rest ≡ true) → 0 < length tail
      → out ++ laid_out gap (is_some ended) (parts_after octets ended rest ++ tail) ≡ old ++ laid_out gap false (parts octets (passed ++ rest) ++ tail)

pub none_laid : (gap : Gap) (octets old : List ℕ) (given : List (Result Piece Fault)) → Laid gap octets old given given old None
none_laid gap octets old given = record { passed = []; is = refl; on = λ rest more tail e h s. refl }

passed_on : (given left now : List (Result Piece Fault)) (passed : List Piece) (p : Piece) → now ≡ Ok p ∷ left → given ≡ map Ok passed ++ now → given ≡ map Ok (passed ++ p ∷ []) ++ left
passed_on given left now passed p e g =
    g ∙ ap (λ l. map Ok passed ++ l) e ∙ sym (append_assoc (map Ok passed) (Ok p ∷ []) left) ∙ ap (λ l. l ++ left) (sym (map-append Ok passed (p ∷ [])))

-- the end of the entry has whether it began with a blank
leads_is : (octets : List ℕ) (ended : Option ℕ) (rest : List Piece) (more : List (Result Piece Fault)) (tail : List ComparedPart) (b : Bool) → has_end rest ≡ true
    → IfSome (next_blank (map Ok rest ++ more)) (λ x. b ≡ x) → b ≡ leads (parts_after octets ended rest ++ tail)
leads_is octets ended [] more tail b h k = cc
leads_is octets ended (WordAt p ∷ rest) more tail b h k = leads_is octets (Some p.end) rest more tail b h k
leads_is octets ended (QuoteAt p ∷ rest) more tail b h k = leads_is octets (Some p.end) rest more tail b h k
leads_is octets ended (CommentAt p ∷ rest) more tail b h k = leads_is octets ended rest more tail b h k
leads_is octets ended (EndAt p ∷ rest) more tail b h k = k

-- a token
pub token_laid : (gap : Gap) (octets old : List ℕ) (given left now : List (Result Piece Fault)) (out new token : List ℕ) (g lead apart : Bool) (ended : Option ℕ) (e : ℕ) (p : Piece)
    → now ≡ Ok p ∷ left → ((ps : List Piece) → parts_after octets ended (p ∷ ps) ≡ Token g token ∷ parts_after octets (Some e) ps) → ((ps : List Piece) → has_end (p ∷ ps) ≡ has_end ps)
    → IfSome (next_blank left) (λ b. lead ≡ b) → apart ≡ (not g && (is_some ended || lead)) → new ≡ out ++ gap_if gap apart ++ token → Laid gap octets old given now out ended
    → Laid gap octets old given left new (Some e)
token_laid gap octets old given left now out new token g lead apart ended e p n shown ends blank owes is x = record {
  passed = x.passed ++ p ∷ [];
  is = passed_on given left now x.passed p n x.is;
  on = λ rest more tail k h s.
      let es : List ComparedPart = parts_after octets (Some e) rest ++ tail in
      let end : has_end rest ≡ true = h refl in
      let known : lead ≡ leads es = leads_is octets (Some e) rest more tail lead end (subst (λ l. IfSome (next_blank l) (λ b. lead ≡ b)) k blank) in
      let was = x.on (p ∷ rest) more tail (n ∙ ap (λ l. Ok p ∷ l) k) (λ i. ends rest ∙ end) s in
      ap (λ l. l ++ laid_out gap true es) is ∙ append_assoc (out ++ gap_if gap apart) token (laid_out gap true es) ∙ append_assoc out (gap_if gap apart) (token ++ laid_out gap true es)
      ∙ ap (λ b. out ++ (gap_if gap b ++ (token ++ laid_out gap true es))) (owes ∙ ap (λ b. not g && (is_some ended || b)) known)
      ∙ ap (λ l. out ++ laid_out gap (is_some ended) (l ++ tail)) (sym (shown rest)) ∙ was
      ∙ ap (λ l. old ++ laid_out gap false (parts octets l ++ tail)) (sym (append_assoc x.passed (p ∷ []) rest));
}

-- a comment
pub comment_laid : (gap : Gap) (octets old : List ℕ) (given left now : List (Result Piece Fault)) (out : List ℕ) (ended : Option ℕ) (p : Piece)
    → now ≡ Ok p ∷ left → ((ps : List Piece) → parts_after octets ended (p ∷ ps) ≡ parts_after octets ended ps) → ((ps : List Piece) → has_end (p ∷ ps) ≡ has_end ps)
    → Laid gap octets old given now out ended → Laid gap octets old given left out ended
comment_laid gap octets old given left now out ended p e shown ends x = record {
  passed = x.passed ++ p ∷ [];
  is = passed_on given left now x.passed p e x.is;
  on = λ rest more tail k h s.
      ap (λ l. out ++ laid_out gap (is_some ended) (l ++ tail)) (sym (shown rest)) ∙ x.on (p ∷ rest) more tail (e ∙ ap (λ l. Ok p ∷ l) k) (λ i. ends rest ∙ h i) s
      ∙ ap (λ l. old ++ laid_out gap false (parts octets l ++ tail)) (sym (append_assoc x.passed (p ∷ []) rest));
}

feed_some : (es tail : List ComparedPart) → 0 < length tail → feed_before (es ++ tail) ≡ 10 ∷ []
feed_some [] [] s = absurd (omega (arith, s))
feed_some [] (t ∷ tail) s = refl
feed_some (e ∷ es) tail s = refl

-- an end
pub end_laid : (gap : Gap) (octets old : List ℕ) (given left now : List (Result Piece Fault)) (out new : List ℕ) (ended : Option ℕ) (p : EndOfEntry)
    → now ≡ Ok (EndAt p) ∷ left → new ≡ out ++ gap_if gap (not (is_some ended) && p.begins_blank) ++ 10 ∷ [] → Laid gap octets old given now out ended → Laid gap octets old given left new None
end_laid gap octets old given left now out new ended p e is x = record {
  passed = x.passed ++ EndAt p ∷ [];
  is = passed_on given left now x.passed (EndAt p) e x.is;
  on = λ rest more tail k h s.
      let es : List ComparedPart = parts_after octets None rest ++ tail in
      let g : List ℕ = gap_if gap (not (is_some ended) && p.begins_blank) in
      let r : List ℕ = laid_out gap false es in
      ap (λ l. l ++ r) is ∙ append_assoc (out ++ g) (10 ∷ []) r ∙ append_assoc out g (10 ∷ r)
      ∙ ap (λ f. out ++ (g ++ (f ++ r))) (sym (feed_some (parts_after octets None rest) tail s))
      ∙ x.on (EndAt p ∷ rest) more tail (e ∙ ap (λ l. Ok (EndAt p) ∷ l) k) (λ i. refl) s
      ∙ ap (λ l. old ++ laid_out gap false (parts octets l ++ tail)) (sym (append_assoc x.passed (EndAt p ∷ []) rest));
}

-- an end was yielded, and then more; and the output then
pub record MarkAt (gap : Gap) (octets old : List ℕ) (given left : List (Result Piece Fault)) (at : ℕ) (out : List ℕ) : Type 0 where
  pub front : List Piece
  pub more : List Piece
  pub is : given ≡ map Ok front ++ (map Ok more ++ left)
  pub ends : (first : List Piece) × (blank : Bool) × (front ≡ first ++ end_at at blank ∷ [])
  pub text : out ≡ old ++ laid_out gap false (parts octets front ++ Ends false ∷ [])

abbrev pub Mark : Gap → List ℕ → List ℕ → List (Result Piece Fault) → List (Result Piece Fault) → ℕ → List ℕ → Type 0
Mark gap octets old given left at out = ((at ≡ 0) × (out ≡ old)) ⊎ MarkAt gap octets old given left at out

abbrev pub MarkBefore : Gap → List ℕ → List ℕ → List (Result Piece Fault) → List (Result Piece Fault) → ℕ → List ℕ → Type 0
MarkBefore gap octets old given left at out = ((at ≡ 0) × (out ≡ old)) ⊎ ((x : MarkAt gap octets old given left at out) × (0 < length x.more))

pub mark_before : (gap : Gap) (octets old : List ℕ) (given left now : List (Result Piece Fault)) (at : ℕ) (out same : List ℕ) (p : Piece) → now ≡ Ok p ∷ left → same ≡ out
    → Mark gap octets old given now at out → MarkBefore gap octets old given left at same
mark_before gap octets old given left now at out same p e k (inl z) = inl (z.0, k ∙ z.1)
mark_before gap octets old given left now at out same p e k (inr x) = inr (
  record {
    front = x.front;
    more = x.more ++ p ∷ [];
    is = x.is ∙ ap (λ l. map Ok x.front ++ (map Ok x.more ++ l)) e
        ∙ ap (λ l. map Ok x.front ++ l) (sym (append_assoc (map Ok x.more) (Ok p ∷ []) left) ∙ ap (λ l. l ++ left) (sym (map-append Ok x.more (p ∷ []))));
    ends = x.ends;
    text = k ∙ x.text;
  },
  omega (arith, length-append x.more (p ∷ [])),
)

pub before_mark : (gap : Gap) (octets old : List ℕ) (given left : List (Result Piece Fault)) (at : ℕ) (out : List ℕ) → MarkBefore gap octets old given left at out → Mark gap octets old given left at out
before_mark gap octets old given left at out (inl z) = inl z
before_mark gap octets old given left at out (inr x) = inr x.0

pub mark_here : (gap : Gap) (octets old : List ℕ) (given left now : List (Result Piece Fault)) (out new : List ℕ) (ended : Option ℕ) (p : EndOfEntry)
    → now ≡ Ok (EndAt p) ∷ left → new ≡ out ++ gap_if gap (not (is_some ended) && p.begins_blank) ++ 10 ∷ [] → Laid gap octets old given now out ended → Mark gap octets old given left p.at new
unfolding end_laid
mark_here gap octets old given left now out new ended p e is x =
    let y = end_laid gap octets old given left now out new ended p e is x in
    let front : List Piece = x.passed ++ EndAt p ∷ [] in
    inr (record {
      front = front;
      more = [];
      is = passed_on given left now x.passed (EndAt p) e x.is;
      ends = (x.passed, p.begins_blank, refl);
      text = sym (append-nil new) ∙ y.on [] left (Ends false ∷ []) refl (λ i. cc) (omega arith) ∙ ap (λ l. old ++ laid_out gap false (parts octets l ++ Ends false ∷ [])) (append-nil front);
    })

-- what is out at a mark
pub marked : (gap : Gap) (octets old : List ℕ) (given left : List (Result Piece Fault)) (at : ℕ) (out : List ℕ) → AreOctets octets → AreItemsOf octets given → 0 < length left → Mark gap octets old given left at out
    → Settled octets (Ok at) × ((more : List ℕ) × (out ≡ old ++ more) × HasLines (take at octets) gap more)
marked gap octets old given left at out o g some (inl z) =
    (none_settled octets at z.0, ([], z.1 ∙ sym (append-nil old), inl (Ends false ∷ [], none_entries octets at z.0, refl)))
marked gap octets old given left at out o g some (inr x) =
    let u = up_to octets given left x.front x.more at o g x.is (omega (arith, some)) x.ends in
    let es : List ComparedPart = parts octets x.front ++ Ends false ∷ [] in
    (u.settled, (laid_out gap false es, x.text, inl (es, u.entries, refl)))

pub marked_before : (gap : Gap) (octets old : List ℕ) (given left : List (Result Piece Fault)) (at : ℕ) (out : List ℕ) → AreOctets octets → AreItemsOf octets given → MarkBefore gap octets old given left at out
    → Settled octets (Ok at) × ((more : List ℕ) × (out ≡ old ++ more) × HasLines (take at octets) gap more)
marked_before gap octets old given left at out o g (inl z) =
    (none_settled octets at z.0, ([], z.1 ∙ sym (append-nil old), inl (Ends false ∷ [], none_entries octets at z.0, refl)))
marked_before gap octets old given left at out o g (inr x) =
    let u = up_to octets given left x.0.front x.0.more at o g x.0.is (omega (arith, x.1)) x.0.ends in
    let es : List ComparedPart = parts octets x.0.front ++ Ends false ∷ [] in
    (u.settled, (laid_out gap false es, x.0.text, inl (es, u.entries, refl)))

-- the state of the loop
pub record Settling (gap : Gap) (octets old : List ℕ) (given left : List (Result Piece Fault)) (out : List ℕ) (ended : Option ℕ) (kept before made_before last made : ℕ) : Type 0 where
  pub given_is : AreItemsOf octets given
  pub laid : Laid gap octets old given left out ended
  pub last_mark : Mark gap octets old given left last (take made out)
  pub before_mark_is : MarkBefore gap octets old given left before (take made_before out)
  pub start : take kept out ≡ old
  pub kept_within : kept ≤ length out
  pub made_within : made ≤ length out
  pub made_before_within : made_before ≤ length out

take_kept : (n : ℕ) (out new more : List ℕ) → n ≤ length out → new ≡ out ++ more → take n new ≡ take n out
take_kept n out new more h e = ap (take n) e ∙ take-append-le n out more h

longer : (n : ℕ) (out new more : List ℕ) → n ≤ length out → new ≡ out ++ more → n ≤ length new
longer n out new more h e = subst (λ l. n ≤ length l) (sym e) (omega (arith, h, length-append out more))

-- a piece that ends no entry
pub stays : (gap : Gap) (octets old : List ℕ) (given left now : List (Result Piece Fault)) (out new more : List ℕ) (ended after : Option ℕ) (kept before made_before last made : ℕ) (p : Piece)
    → now ≡ Ok p ∷ left → new ≡ out ++ more → Laid gap octets old given left new after
    → Settling gap octets old given now out ended kept before made_before last made → Settling gap octets old given left new after kept before made_before last made
stays gap octets old given left now out new more ended after kept before made_before last made p e n l x = record {
  given_is = x.given_is;
  laid = l;
  last_mark = before_mark gap octets old given left last (take made new) (mark_before gap octets old given left now last (take made out) (take made new) p e (take_kept made out new more x.made_within n) x.last_mark);
  before_mark_is = mark_before gap octets old given left now before (take made_before out) (take made_before new) p e (take_kept made_before out new more x.made_before_within n)
      (before_mark gap octets old given now before (take made_before out) x.before_mark_is);
  start = take_kept kept out new more x.kept_within n ∙ x.start;
  kept_within = longer kept out new more x.kept_within n;
  made_within = longer made out new more x.made_within n;
  made_before_within = longer made_before out new more x.made_before_within n;
}

-- the end of an entry
pub turns : (gap : Gap) (octets old : List ℕ) (given left now : List (Result Piece Fault)) (out new : List ℕ) (ended : Option ℕ) (kept before made_before last made size : ℕ) (p : EndOfEntry)
    → size ≡ length new → now ≡ Ok (EndAt p) ∷ left → new ≡ out ++ gap_if gap (not (is_some ended) && p.begins_blank) ++ 10 ∷ []
    → Settling gap octets old given now out ended kept before made_before last made → Settling gap octets old given left new None kept last made p.at size
turns gap octets old given left now out new ended kept before made_before last made size p long e is x =
    let more : List ℕ = gap_if gap (not (is_some ended) && p.begins_blank) ++ 10 ∷ [] in
    let n : new ≡ out ++ more = is ∙ append_assoc out (gap_if gap (not (is_some ended) && p.begins_blank)) (10 ∷ []) in
    record {
      given_is = x.given_is;
      laid = end_laid gap octets old given left now out new ended p e is x.laid;
      last_mark = subst (Mark gap octets old given left p.at) (sym (ap (λ n. take n new) long ∙ take_all (length new) new (omega arith))) (mark_here gap octets old given left now out new ended p e is x.laid);
      before_mark_is = mark_before gap octets old given left now last (take made out) (take made new) (EndAt p) e (take_kept made out new more x.made_within n) x.last_mark;
      start = take_kept kept out new more x.kept_within n ∙ x.start;
      kept_within = longer kept out new more x.kept_within n;
      made_within = omega (arith, long);
      made_before_within = longer made out new more x.made_within n;
    }

pub starts : (gap : Gap) (octets old : List ℕ) (given : List (Result Piece Fault)) (kept : ℕ) → kept ≡ length old → AreItemsOf octets given → Settling gap octets old given given old None kept 0 kept 0 kept
starts gap octets old given kept long g =
    let all : take kept old ≡ old = ap (λ n. take n old) long ∙ take_all (length old) old (omega arith) in
    let within : kept ≤ length old = omega (arith, long) in
    record {
      given_is = g;
      laid = none_laid gap octets old given;
      last_mark = inl (refl, all);
      before_mark_is = inl (refl, all);
      start = all;
      kept_within = within;
      made_within = within;
      made_before_within = within;
    }

-- the remaining pieces that are within octets
pub left_within : (n : ℕ) (given left : List (Result Piece Fault)) (passed : List Piece) → given ≡ map Ok passed ++ left → EachWithin n given → EachWithin n left
left_within n given left passed e w = within_after n passed left (subst (EachWithin n) e w)
