-- Entries with tokens that are the same in two texts, up to an offset in each.
use Rattle.std.proofs.Common.{◌≡◌, ℕ, ◌<◌, Bool, false, List, [], ◌∷◌, ◌++◌, length, take, drop, true, refl, sym, ap, ◌∙◌, subst, arith, inl, inr, append-nil, append_assoc, length-append, ◌+◌}
use Rattle.std.specs.Prelude.{◌⊎◌, Option, Some, None, map, Result, Ok, IfSome}
use Rattle.std.proofs.lemmas.List.{map-append, take-append-drop}
use Rattle.dns_lexer.specs.declared.pieces.Piece.{Piece}
use Rattle.dns_lexer.specs.declared.pieces.EndOfEntry.{EndOfEntry}
use Rattle.dns_lexer.specs.declared.pieces.Piece.TheVariants.{Word as WordAt, Quote as QuoteAt, Comment as CommentAt, End as EndAt}
use Rattle.dns_lexer.specs.declared.pieces.Fault.{Fault}
use Rattle.dns_lexer.specs.Pieces.{AreOctets, AreItemsOf, end_at, piece_start}
use Rattle.zonetext_lib.specs.Blocks.{EndsEntryAt, Settled}
use Rattle.zonetext_lib.specs.Compare.{CanCut, SkipsToPart, is_passed, part, compared_parts}
use Rattle.zonetext_lib.specs.Comparing.{SameUntil, if_both}
use Rattle.zonetext_lib.specs.Entries.{ComparedPart, Ends, HasEntries, HasTokenEntries, ended_after_pieces, ended_by, parts, with_tokens}
use Rattle.zonetext_lib.specs.Writing.{EndsAt}
use Rattle.zonetext_lib.proofs.Comparing.{PassedOver, Taken, skipped}
use Rattle.zonetext_lib.proofs.Cuts.{cut_given, none_given}
use Rattle.zonetext_lib.proofs.Following.{parts_front}
use Rattle.zone_format.proofs.Givens.{pieces_after, pieces_in}
use Rattle.zonetext_lib.proofs.Made.{given_zone}
use Rattle.zonetext_lib.proofs.Parts.{ended_none, parts_append, says_append}
use Rattle.zonetext_lib.proofs.Passing.{oks_length, within_after}

-- the last of these pieces is the end of an entry, here
abbrev pub EndsHere : List Piece → ℕ → Type 0
EndsHere front at = (first : List Piece) × (blank : Bool) × (front ≡ first ++ end_at at blank ∷ [])

-- octets up to such an end
pub record UpTo (octets : List ℕ) (front : List Piece) (at : ℕ) : Type 0 where
  pub settled : Settled octets (Ok at)
  pub cut : EndsEntryAt octets at
  pub entries : HasEntries (take at octets) (parts octets front ++ Ends false ∷ [])

pub up_to : (octets : List ℕ) (all left : List (Result Piece Fault)) (front more : List Piece) (at : ℕ) → AreOctets octets → AreItemsOf octets all → all ≡ map Ok front ++ (map Ok more ++ left)
    → 0 < length more + length left → EndsHere front at → UpTo octets front at
up_to octets all left front more at o g e some ends =
    let f : List Piece = ends.0 in
    let b : Bool = ends.1 in
    let follows : List (Result Piece Fault) = map Ok more ++ left in
    let end : List Piece = end_at at false ∷ [] in
    let last : List Piece = end_at at b ∷ [] in
    let long : 0 < length follows = omega (arith, some, length-append (map {B = Result Piece Fault} Ok more) left, oks_length more) in
    let shape : all ≡ map Ok f ++ Ok (end_at at b) ∷ follows =
    e ∙ ap (λ l. map Ok l ++ follows) ends.2 ∙ ap (λ l. l ++ follows) (map-append Ok f last) ∙ append_assoc (map Ok f) (map Ok last) follows in
    let here : AreItemsOf octets (map Ok f ++ Ok (end_at at b) ∷ follows) = subst (AreItemsOf octets) shape g in
    let g0 = cut_given octets f at b follows o here long in
    let g1 : AreItemsOf (take at octets) (map Ok front ++ map Ok end) =
    subst (AreItemsOf (take at octets)) (sym (ap (λ l. map Ok l ++ map Ok end) ends.2 ∙ ap (λ l. l ++ map Ok end) (map-append Ok f last) ∙ append_assoc (map Ok f) (map Ok last) (map Ok end))) g0 in
    let z = given_zone (take at octets) (front ++ end) (subst (AreItemsOf (take at octets)) (sym (map-append Ok front end)) g1) in
    let own : parts (take at octets) (pieces_in (map Ok (front ++ end))) ≡ parts (take at octets) front ++ Ends false ∷ [] =
    ap (λ l. parts (take at octets) (pieces_in l)) (map-append Ok front end) ∙ ap (parts (take at octets)) (pieces_after front (map Ok end)) ∙ parts_append (take at octets) None front end in
    let same : parts octets front ≡ parts (take at octets) front =
    ap (λ l. parts l front) (sym (take-append-drop at octets)) ∙ parts_front (take at octets) (drop at octets) None front (map Ok end) g1.1 in
    record {
      settled = ((within_after (length octets) f _ here.1).0, inr (f, b, follows, here, long));
      cut = (f, b, follows, here, long);
      entries = subst (HasEntries (take at octets)) (own ∙ ap (λ l. l ++ Ends false ∷ []) (sym same)) z;
    }

pub none_settled : (octets : List ℕ) (at : ℕ) → at ≡ 0 → Settled octets (Ok at)
none_settled octets at z = (omega (arith, z), inl z)

pub none_entries : (octets : List ℕ) (at : ℕ) → at ≡ 0 → HasEntries (take at octets) (Ends false ∷ [])
none_entries octets at z = subst (λ n. HasEntries (take n octets) (Ends false ∷ [])) (sym z) (given_zone [] (end_at 0 false ∷ []) none_given)

-- the entries of pieces that end with an entry's end
here_none : (front : List Piece) (at : ℕ) → EndsHere front at → ended_after_pieces None front ≡ None
here_none front at e = ended_none front (inr (e.0, at, e.1, e.2))

pub tokens_to : (octets : List ℕ) (front : List Piece) (at : ℕ) → EndsHere front at → UpTo octets front at → HasTokenEntries (take at octets) (compared_parts octets None front)
tokens_to octets front at e u =
    let end : List Piece = end_at at false ∷ [] in
    let none : compared_parts octets None (front ++ end) ≡ compared_parts octets None front =
    says_append octets None front end ∙ ap (λ o. compared_parts octets None front ++ compared_parts octets o end) (here_none front at e) ∙ append-nil (compared_parts octets None front) in
    (parts octets front ++ Ends false ∷ [], u.entries, ap (with_tokens false) (sym (parts_append octets None front end)) ∙ none)

-- an entry ended here, before which the parts are these; what follows is of one entry, unless none has begun
pub record Begun (octets : List ℕ) (all left : List (Result Piece Fault)) (ended : Option ℕ) (at : ℕ) (es : List ComparedPart) : Type 0 where
  pub front : List Piece
  pub more : List Piece
  pub is : all ≡ map Ok front ++ (map Ok more ++ left)
  pub ends : EndsAt front at
  pub says_is : compared_parts octets None front ≡ es
  pub none : ended ≡ None → more ≡ []

abbrev pub Last : (first second : List ℕ) (all_ours all_theirs ours theirs : List (Result Piece Fault)) (ended that_ended : Option ℕ) (at there : ℕ) → Type 0
Last first second all_ours all_theirs ours theirs ended that_ended at there = (es : List ComparedPart) × Begun first all_ours ours ended at es × Begun second all_theirs theirs that_ended there es

none_begun : (octets : List ℕ) (all : List (Result Piece Fault)) → Begun octets all all None 0 []
none_begun octets all = record { front = []; more = []; is = refl; ends = inl (refl, refl); says_is = refl; none = λ e. refl }

pub none_last : (first second : List ℕ) (ours theirs : List (Result Piece Fault)) → Last first second ours theirs ours theirs None None 0 0
none_last first second ours theirs = ([], none_begun first ours, none_begun second theirs)

-- a token was consumed
token_begun : (octets : List ℕ) (all old new : List (Result Piece Fault)) (ended next : Option ℕ) (at : ℕ) (es : List ComparedPart) (p : Piece) → SkipsToPart ended old (Some (Ok p)) new → (next ≡ None → ⊥)
    → Begun octets all old ended at es → Begun octets all new next at es
token_begun octets all old new ended next at es p s some x =
    let more : List Piece = s.passed ++ p ∷ [] in
    let e : old ≡ map Ok more ++ new = s.is ∙ ap (λ l. map Ok s.passed ++ l) s.takes.0 ∙ sym (append_assoc (map Ok s.passed) (Ok p ∷ []) new) ∙ ap (λ l. l ++ new) (sym (map-append Ok s.passed (p ∷ []))) in
    record {
      front = x.front;
      more = x.more ++ more;
      is = x.is ∙ ap (λ l. map Ok x.front ++ (map Ok x.more ++ l)) e
          ∙ ap (λ l. map Ok x.front ++ l) (sym (append_assoc (map Ok x.more) (map Ok more) new) ∙ ap (λ l. l ++ new) (sym (map-append Ok x.more more)));
      ends = x.ends;
      says_is = x.says_is;
      none = λ n. absurd (some n);
    }

-- an end was consumed
end_begun : (octets : List ℕ) (all old new : List (Result Piece Fault)) (ended next : Option ℕ) (common : List ComparedPart) (e : ComparedPart) (p : Piece) (end : EndOfEntry) → p ≡ EndAt end
    → Taken octets all old ended common → SkipsToPart ended old (Some (Ok p)) new → part octets ended p ≡ e → Begun octets all new next end.at (common ++ e ∷ [])
end_begun octets all old new ended next common e p end is x s same =
    let k = skipped octets all old new ended common (Some (Ok p)) x s in
    let last : List Piece = p ∷ [] in
    record {
      front = k.taken ++ last;
      more = [];
      is = k.is ∙ ap (λ l. map Ok k.taken ++ l) s.takes.0 ∙ sym (append_assoc (map Ok k.taken) (Ok p ∷ []) new) ∙ ap (λ l. l ++ new) (sym (map-append Ok k.taken last));
      ends = inr (k.taken, end.begins_blank, ap (λ (q : Piece). k.taken ++ q ∷ []) is);
      says_is = says_append octets None k.taken last ∙ ap (λ o. compared_parts octets None k.taken ++ compared_parts octets o last) k.ends ∙ ap (λ l. compared_parts octets None k.taken ++ l) (s.takes.1 octets)
          ∙ ap (λ l. l ++ part octets ended p ∷ []) k.says_is ∙ ap (λ t. common ++ t ∷ []) same;
      none = λ n. refl;
    }

-- of the same part, neither piece is an end, or both are
token_is : (octets : List ℕ) (ended next : Option ℕ) (p : Piece) → ((end : EndOfEntry) → p ≡ EndAt end → ⊥) → compared_parts octets ended (p ∷ []) ≡ part octets ended p ∷ [] → next ≡ ended_by ended p → next ≡ None → ⊥
token_is octets ended next (WordAt p) not_end s e n = let k : Some p.end ≡ None = sym e ∙ n in cc
token_is octets ended next (QuoteAt p) not_end s e n = let k : Some p.end ≡ None = sym e ∙ n in cc
token_is octets ended next (CommentAt p) not_end s e n = cc
token_is octets ended next (EndAt p) not_end s e n = not_end p refl

other_token : (first second : List ℕ) (ended that_ended : Option ℕ) (p q : Piece) → ((end : EndOfEntry) → p ≡ EndAt end → ⊥) → part first ended p ≡ part second that_ended q
    → (end : EndOfEntry) → q ≡ EndAt end → ⊥
other_token first second ended that_ended (WordAt p) q not_end same end e = let k = same ∙ ap (part second that_ended) e in cc
other_token first second ended that_ended (QuoteAt p) q not_end same end e = let k = same ∙ ap (part second that_ended) e in cc
other_token first second ended that_ended (CommentAt p) q not_end same end e = let k = same ∙ ap (part second that_ended) e in cc
other_token first second ended that_ended (EndAt p) q not_end same end e = not_end p refl

other_end : (first second : List ℕ) (ended that_ended : Option ℕ) (p : EndOfEntry) (q : Piece) → part first ended (EndAt p) ≡ part second that_ended q
    → (end : EndOfEntry) × (q ≡ EndAt end) × (piece_start q ≡ end.at)
other_end first second ended that_ended p (WordAt q) same = cc
other_end first second ended that_ended p (QuoteAt q) same = cc
other_end first second ended that_ended p (CommentAt q) same = cc
other_end first second ended that_ended p (EndAt q) same = (q, refl, refl)

pub last_token : (first second : List ℕ) (all_ours all_theirs ours theirs new new2 : List (Result Piece Fault)) (ended that_ended next that_next : Option ℕ) (at there : ℕ) (p q : Piece)
    → SkipsToPart ended ours (Some (Ok p)) new → SkipsToPart that_ended theirs (Some (Ok q)) new2 → ((end : EndOfEntry) → p ≡ EndAt end → ⊥) → part first ended p ≡ part second that_ended q
    → next ≡ ended_by ended p → that_next ≡ ended_by that_ended q → Last first second all_ours all_theirs ours theirs ended that_ended at there
    → Last first second all_ours all_theirs new new2 next that_next at there
last_token first second all_ours all_theirs ours theirs new new2 ended that_ended next that_next at there p q s t not_end same a b x = (
  x.0,
  token_begun first all_ours ours new ended next at x.0 p s (token_is first ended next p not_end (s.takes.1 first) a) x.1,
  token_begun second all_theirs theirs new2 that_ended that_next there x.0 q t
      (token_is second that_ended that_next q (other_token first second ended that_ended p q not_end same) (t.takes.1 second) b) x.2,
)

pub last_end : (first second : List ℕ) (all_ours all_theirs ours theirs new new2 : List (Result Piece Fault)) (ended that_ended next that_next : Option ℕ) (there : ℕ) (common : List ComparedPart)
    (p q : Piece) (end : EndOfEntry) → p ≡ EndAt end → SkipsToPart ended ours (Some (Ok p)) new → SkipsToPart that_ended theirs (Some (Ok q)) new2 → part first ended p ≡ part second that_ended q
    → there ≡ piece_start q → Taken first all_ours ours ended common → Taken second all_theirs theirs that_ended common → Last first second all_ours all_theirs new new2 next that_next end.at there
last_end first second all_ours all_theirs ours theirs new new2 ended that_ended next that_next there common p q end is s t same at x y =
    let e : ComparedPart = part second that_ended q in
    let o = other_end first second ended that_ended end q (ap (part first ended) (sym is) ∙ same) in (
      common ++ e ∷ [],
      end_begun first all_ours ours new ended next common e p end is x s same,
      subst (λ n. Begun second all_theirs new2 that_next n (common ++ e ∷ [])) (sym (at ∙ o.2)) (end_begun second all_theirs theirs new2 that_ended that_next common e q o.0 o.1 y t refl),
    )

-- at the end of the last of such entries it can be cut
some_left : (old left : List (Result Piece Fault)) (passed : List Piece) → old ≡ map Ok passed ++ left → 0 < length left → 0 < length old
some_left old left passed e some = subst (λ (l : List (Result Piece Fault)). 0 < length l) (sym e) (omega (arith, some, length-append (map {B = Result Piece Fault} Ok passed) left))

abbrev pub CutAt : List ℕ → ℕ → List ComparedPart → Type 0
CutAt octets at es = Settled octets (Ok at) × HasTokenEntries (take at octets) es

none_cut : (octets : List ℕ) (at : ℕ) (es : List ComparedPart) → at ≡ 0 → es ≡ [] → CutAt octets at es
none_cut octets at es z n = (none_settled octets at z, (Ends false ∷ [], none_entries octets at z, sym n))

here_cut : (octets : List ℕ) (all left : List (Result Piece Fault)) (front more : List Piece) (at : ℕ) (es : List ComparedPart) → AreOctets octets → AreItemsOf octets all
    → all ≡ map Ok front ++ (map Ok more ++ left) → 0 < length more + length left → EndsHere front at → compared_parts octets None front ≡ es → CutAt octets at es
here_cut octets all left front more at es o g e some ends is =
    let u = up_to octets all left front more at o g e some ends in
    (u.settled, subst (HasTokenEntries (take at octets)) is (tokens_to octets front at ends u))

begun_none : (front : List Piece) (at : ℕ) → EndsAt front at → ended_after_pieces None front ≡ None
begun_none front at (inl z) = ap (ended_after_pieces None) z.0
begun_none front at (inr e) = here_none front at e

cut_one : (octets : List ℕ) (all old : List (Result Piece Fault)) (ended : Option ℕ) (last at : ℕ) (es : List ComparedPart) → AreOctets octets → AreItemsOf octets all → Begun octets all old ended last es
    → CanCut ended last old at → CutAt octets at es
cut_one octets all old ended last at es o g x c = go c.ends
  where
    stay : EndsAt x.front last → at ≡ last → CutAt octets at es
    stay (inl z) e = none_cut octets at es (e ∙ z.1) (sym x.says_is ∙ ap (compared_parts octets None) z.0)
    stay (inr k) e =
        subst (λ n. CutAt octets n es) (sym e) (here_cut octets all old x.front x.more last es o g x.is (omega (arith, some_left old c.left c.passed c.is c.some)) k x.says_is)

    go : ((c.passed ≡ []) × (at ≡ last)) ⊎ ((ended ≡ None) × (first : List Piece) × (blank : Bool) × (c.passed ≡ first ++ end_at at blank ∷ [])) → CutAt octets at es
    go (inl z) = stay x.ends z.1
    go (inr k) =
        let front : List Piece = x.front ++ c.passed in
        let e : all ≡ map Ok front ++ c.left =
        x.is ∙ ap (λ l. map Ok x.front ++ (map Ok l ++ old)) (x.none k.0) ∙ ap (λ l. map Ok x.front ++ l) c.is ∙ sym (append_assoc (map Ok x.front) (map Ok c.passed) c.left)
        ∙ ap (λ l. l ++ c.left) (sym (map-append Ok x.front c.passed)) in
        let ends : EndsHere front at = (x.front ++ k.1, k.2, ap (λ l. x.front ++ l) k.3 ∙ sym (append_assoc x.front k.1 (end_at at k.2 ∷ []))) in
        let is : compared_parts octets None front ≡ es =
        says_append octets None x.front c.passed ∙ ap (λ v. compared_parts octets None x.front ++ compared_parts octets v c.passed) (begun_none x.front last x.ends ∙ sym k.0)
        ∙ ap (λ l. compared_parts octets None x.front ++ l) (c.no_parts octets) ∙ append-nil (compared_parts octets None x.front) ∙ x.says_is in
        here_cut octets all c.left front [] at es o g e (omega (arith, c.some)) ends is

both_cut : (first second : List ℕ) (all_ours all_theirs ours theirs : List (Result Piece Fault)) (ended that_ended : Option ℕ) (last that_last cut that_cut : ℕ) (here there : Option ℕ)
    → AreOctets first → AreOctets second → AreItemsOf first all_ours → AreItemsOf second all_theirs → Last first second all_ours all_theirs ours theirs ended that_ended last that_last
    → IfSome here (CanCut ended last ours) → IfSome there (CanCut that_ended that_last theirs) → SameUntil first second cut that_cut
    → SameUntil first second (if_both here there cut) (if_both there here that_cut)
both_cut first second all_ours all_theirs ours theirs ended that_ended last that_last cut that_cut (Some a) (Some b) o p g h x c d u =
    let one = cut_one first all_ours ours ended last a x.0 o g x.1 c in
    let two = cut_one second all_theirs theirs that_ended that_last b x.0 p h x.2 d in
    (one.0, two.0, (x.0, one.1, two.1))
both_cut first second all_ours all_theirs ours theirs ended that_ended last that_last cut that_cut None (Some b) o p g h x c d u = u
both_cut first second all_ours all_theirs ours theirs ended that_ended last that_last cut that_cut (Some a) None o p g h x c d u = u
both_cut first second all_ours all_theirs ours theirs ended that_ended last that_last cut that_cut None None o p g h x c d u = u

pub cut_both : (first second : List ℕ) (all_ours all_theirs ours theirs : List (Result Piece Fault)) (ended that_ended : Option ℕ) (last that_last cut that_cut : ℕ) (here there : Option ℕ) (now that_now : ℕ)
    → AreOctets first → AreOctets second → AreItemsOf first all_ours → AreItemsOf second all_theirs → Last first second all_ours all_theirs ours theirs ended that_ended last that_last
    → IfSome here (CanCut ended last ours) → IfSome there (CanCut that_ended that_last theirs) → SameUntil first second cut that_cut
    → now ≡ if_both here there cut → that_now ≡ if_both there here that_cut → SameUntil first second now that_now
cut_both first second all_ours all_theirs ours theirs ended that_ended last that_last cut that_cut here there now that_now o p g h x c d u e k =
    subst (λ n. SameUntil first second n that_now) (sym e) (subst (λ n. SameUntil first second (if_both here there cut) n) (sym k)
    (both_cut first second all_ours all_theirs ours theirs ended that_ended last that_last cut that_cut here there o p g h x c d u))

-- what was consumed, as it was found to be
pub found_skips : (ended : Option ℕ) (old new : List (Result Piece Fault)) (o : Option (Result Piece Fault)) (x : Result Piece Fault) (p : Piece) → o ≡ Some x → x ≡ Ok p → SkipsToPart ended old o new
    → SkipsToPart ended old (Some (Ok p)) new
found_skips ended old new o x p e k s = subst (λ y. SkipsToPart ended old (Some y) new) k (subst (λ y. SkipsToPart ended old y new) e s)

pub none_same : (first second : List ℕ) → SameUntil first second 0 0
none_same first second =
    let a = none_cut first 0 [] refl refl in
    let b = none_cut second 0 [] refl refl in
    (a.0, b.0, ([], a.1, b.1))

-- how far pieces were passed over, up to the end of an entry without tokens
pub record Reached (ended : Option ℕ) (last : ℕ) (old now : List (Result Piece Fault)) (at : ℕ) : Type 0 where
  pub front : List Piece
  pub more : List Piece
  pub is : old ≡ map Ok front ++ (map Ok more ++ now)
  pub no_parts : (octets : List ℕ) → compared_parts octets ended front ≡ []
  pub ends : ((front ≡ []) × (at ≡ last)) ⊎ ((ended ≡ None) × (first : List Piece) × (blank : Bool) × (front ≡ first ++ end_at at blank ∷ []))

pub none_reached : (ended : Option ℕ) (last : ℕ) (old : List (Result Piece Fault)) → Reached ended last old old last
none_reached ended last old = record { front = []; more = []; is = refl; no_parts = λ octets. none ended octets; ends = inl (refl, refl) }
  where
    none : (ended : Option ℕ) (octets : List ℕ) → compared_parts octets ended [] ≡ []
    none None octets = refl
    none (Some e) octets = refl

pub can_cut : (ended : Option ℕ) (last : ℕ) (old now : List (Result Piece Fault)) (at : ℕ) → 0 < length now → Reached ended last old now at → CanCut ended last old at
can_cut ended last old now at some x = record {
  passed = x.front;
  left = map Ok x.more ++ now;
  is = x.is;
  some = omega (arith, some, length-append (map {B = Result Piece Fault} Ok x.more) now);
  no_parts = x.no_parts;
  ends = x.ends;
}

passed_none : (ended : Option ℕ) (p : EndOfEntry) → is_passed ended (Ok (EndAt p)) ≡ true → ended ≡ None
passed_none None p h = refl
passed_none (Some e) p h = cc

pub reached_end : (ended : Option ℕ) (last : ℕ) (old now new : List (Result Piece Fault)) (at : ℕ) (p : EndOfEntry) → is_passed ended (Ok (EndAt p)) ≡ true → now ≡ Ok (EndAt p) ∷ new
    → PassedOver ended old now → Reached ended last old now at → Reached ended last old new p.at
reached_end ended last old now new at p h e o x = let none = passed_none ended p h in record {
  front = o.passed ++ EndAt p ∷ [];
  more = [];
  is = o.is ∙ ap (λ l. map Ok o.passed ++ l) e ∙ sym (append_assoc (map Ok o.passed) (Ok (EndAt p) ∷ []) new) ∙ ap (λ l. l ++ new) (sym (map-append Ok o.passed (EndAt p ∷ [])));
  no_parts = λ octets. says_append octets ended o.passed (EndAt p ∷ []) ∙ ap (λ v. compared_parts octets ended o.passed ++ compared_parts octets v (EndAt p ∷ [])) (o.stays ∙ none)
      ∙ append-nil (compared_parts octets ended o.passed) ∙ o.no_parts octets;
  ends = inr (none, o.passed, p.begins_blank, refl);
}

pub reached_more : (ended : Option ℕ) (last : ℕ) (old now new : List (Result Piece Fault)) (at : ℕ) (p : Piece) → now ≡ Ok p ∷ new → Reached ended last old now at → Reached ended last old new at
reached_more ended last old now new at p e x = record {
  front = x.front;
  more = x.more ++ p ∷ [];
  is = x.is ∙ ap (λ l. map Ok x.front ++ (map Ok x.more ++ l)) e
      ∙ ap (λ l. map Ok x.front ++ l) (sym (append_assoc (map Ok x.more) (Ok p ∷ []) new) ∙ ap (λ l. l ++ new) (sym (map-append Ok x.more (p ∷ []))));
  no_parts = x.no_parts;
  ends = x.ends;
}
