-- The first error of octets stays the first one after whole entries, and before more octets.
use Rattle.std.proofs.Common.{◌≡◌, ℕ, ◌+◌, ◌-◌, ◌<◌, ◌≤◌, true, false, List, [], ◌∷◌, ◌++◌, length, take, drop, sym, ap, ◌∙◌, subst, arith, inl, inr, append-nil, append_assoc, length-append, length-take}
use Rattle.std.specs.Prelude.{map, option_map, Some, None, Result, Ok, Err, encode_utf8_all}
use Rattle.std.proofs.lemmas.Bool.{ltb-true}
use Rattle.std.proofs.lemmas.List.{append_cancel_right, get_or-append-add, get_or_append_left, map-append}
use Rattle.dns_lexer.specs.CursorStates.{blank_at}
use Rattle.dns_lexer.specs.declared.pieces.Fault.{Fault}
use Rattle.dns_lexer.specs.declared.pieces.Piece.{Piece}
use Rattle.dns_lexer.specs.declared.pieces.Piece.TheVariants.{Word as WordAt, Quote as QuoteAt, Comment as CommentAt, End as EndAt}
use Rattle.dns_lexer.specs.Pieces.{AreItemsOf, AreOctets, EachWithin, Reads, between, end_at, later, moved, moved_fault, moved_piece, place_of, quote_at, word_at}
use Rattle.dns_lexer.proofs.Blocks.{faults_stay}
use Rattle.dns_lexer.proofs.OctetsOnce.{given_once, run_given}
use Rattle.zone_format.specs.Blocks.{FormedTo}
use Rattle.zone_format.specs.Marks.{HasMarks, all_marks, lead}
use Rattle.zone_format.specs.Refusal.{HasFirstError, HasTokenAfter, begins_order_mark, has_form, have_form, may_follow, order_mark_length}
use Rattle.zone_format.specs.declared.line_state.Above.{Above}
use Rattle.zone_format.specs.declared.line_state.Above.TheVariants.{Nothing}
use Rattle.zone_format.specs.declared.line_state.FormatState.{FormatState}
use Rattle.zone_format.specs.declared.refusal.Refusal.TheVariants.{Nul as NulAt, OrderMark as OrderMarkAt, Wrong as WrongAt}
use Rattle.zone_format.proofs.Follow.{Follows, back, follow}
use Rattle.zone_format.proofs.Givens.{first_fault, first_of_oks, moved_first, moved_oks, pieces_after, pieces_in}
use Rattle.zone_format.proofs.Joined.{none_marked}
use Rattle.zone_format.proofs.OrderMarks.{mark_fits}
use Rattle.zone_format.proofs.Same.{marks_once}
use Rattle.zonetext_lib.specs.Blocks.{EndsEntry, Settled}
use Rattle.zonetext_lib.proofs.Cuts.{fault_after, fault_alone, fault_on, none_given, read_on}
use Rattle.zonetext_lib.proofs.FirstErrors.{EndBefore, all_first, before_append, each_first, follow_marks, marks_back, onward}
use Rattle.zonetext_lib.proofs.Following.{between_back, between_front}
use Rattle.zonetext_lib.proofs.Made.{pieces_moved}

-- the pieces before the last are known
same_front : (octets : List ℕ) (xs ys : List Piece) (e : Piece) → AreItemsOf octets (map Ok xs ++ Ok e ∷ []) → AreItemsOf octets (map Ok ys ++ Ok e ∷ []) → xs ≡ ys
same_front octets xs ys e g h =
    let same = given_once octets (map Ok xs ++ Ok e ∷ []) (map Ok ys ++ Ok e ∷ []) g h in
    append_cancel_right xs ys (e ∷ []) (sym (pieces_after xs (Ok e ∷ [])) ∙ ap pieces_in same ∙ pieces_after ys (Ok e ∷ []))

-- ---- after whole entries

-- pieces that come first, after which the items of octets follow as they are alone, and have the form that they have below a seam
pub record Continues (b y : List ℕ) (above : Above) (alone : List (Result Piece Fault)) : Type 0 where
  pub front : List Piece
  pub items : AreItemsOf (b ++ y) (map Ok front ++ later (length b) alone)
  pub formed : (found : List Piece) → have_form Nothing (b ++ y) (front ++ map (onward b) found) ≡ have_form above y found

none_moved : (y : List ℕ) (found : List Piece) → all_marks y (map (onward []) found) ≡ all_marks y found
none_moved y found = ap (λ l. lead (blank_at y 0) ++ l) (marks_back [] y false 0 found)

continues : (b y written : List ℕ) (s : FormatState) (alone : List (Result Piece Fault)) → AreOctets b → AreOctets y → EndsEntry b → FormedTo b written s → AreItemsOf y alone → Continues b y s.above alone
continues b y written s alone o p (inl none) f g =
    let r = read_on b y alone o p (inl none) g in
    let nothing : f.marks ≡ [] = marks_once [] f.marks [] (subst (λ l. HasMarks l f.marks) none f.read) none_marked in
    let front : r.front ≡ [] = same_front [] r.front [] (end_at 0 false) (subst (λ l. AreItemsOf l (map Ok r.front ++ Ok (end_at (length l) false) ∷ [])) none r.own) none_given in
    record {
      front = r.front;
      items = r.is;
      formed = λ found.
          ap (λ l. have_form Nothing (b ++ y) (l ++ map (onward b) found)) front
          ∙ subst (λ l. has_form (all_marks (l ++ y) (map (onward l) found)) ≡ may_follow s.above (all_marks y found)) (sym none)
          (ap has_form (none_moved y found) ∙ ap (λ l. has_form (l ++ all_marks y found)) (sym nothing) ∙ f.fit (all_marks y found));
    }
continues b y written s alone o p (inr e) f g =
    let n : ℕ = length b in
    let r = read_on b y alone o p (inr e) g in
    let front : List Piece = e.0 ++ end_at n e.1 ∷ [] in
    let last : List (Result Piece Fault) = Ok (end_at n false) ∷ [] in
    let shape : map {B = Result Piece Fault} Ok e.0 ++ Ok (end_at n e.1) ∷ last ≡ map Ok front ++ last =
    sym (append_assoc (map Ok e.0) (Ok (end_at n e.1) ∷ []) last) ∙ ap (λ l. l ++ last) (sym (map-append Ok e.0 (end_at n e.1 ∷ []))) in
    let same : r.front ≡ front = same_front b r.front front (end_at n false) r.own (subst (AreItemsOf b) shape e.2) in
    record {
      front = r.front;
      items = r.is;
      formed = λ found.
          ap (λ l. have_form Nothing (b ++ y) (l ++ map (onward b) found)) same
          ∙ ap has_form (follow_marks b y e.0 e.1 e.2 f.marks f.read found) ∙ f.fit (all_marks y found);
    }

items_on : (b y : List ℕ) (above : Above) (found : List Piece) (x : Result Piece Fault) (more : List (Result Piece Fault)) (c : Continues b y above (map Ok found ++ x ∷ more))
    → AreItemsOf (b ++ y) (map Ok (c.front ++ map (onward b) found) ++ moved (λ i. length b + i) x ∷ later (length b) more)
items_on b y above found x more c =
    let n : ℕ = length b in
    let rest : List (Result Piece Fault) = moved (λ i. n + i) x ∷ later n more in
    let shape : map Ok c.front ++ later n (map Ok found ++ x ∷ more) ≡ map Ok (c.front ++ map (onward b) found) ++ rest =
    ap (λ l. map Ok c.front ++ l) (map-append (moved (λ i. n + i)) (map Ok found) (x ∷ more) ∙ ap (λ l. l ++ rest) (moved_oks (λ i. n + i) found))
    ∙ sym (append_assoc (map Ok c.front) (map Ok (map (onward b) found)) rest) ∙ ap (λ l. l ++ rest) (sym (map-append Ok c.front (map (onward b) found))) in
    subst (AreItemsOf (b ++ y)) shape c.items

-- the pieces before a token, and one more that ends there
formed_cut : (b y : List ℕ) (above : Above) (alone : List (Result Piece Fault)) (c : Continues b y above alone) (found : List Piece) (s e : ℕ)
    → have_form Nothing (b ++ y) ((c.front ++ map (onward b) found) ++ word_at (length b + s) (length b + e) ∷ []) ≡ have_form above y (found ++ word_at s e ∷ [])
formed_cut b y above alone c found s e =
    ap (have_form Nothing (b ++ y)) (append_assoc c.front (map (onward b) found) (word_at (length b + s) (length b + e) ∷ []) ∙ ap (λ l. c.front ++ l) (sym (map-append (onward b) found (word_at s e ∷ []))))
    ∙ c.formed (found ++ word_at s e ∷ [])

module _ (b y written : List ℕ) (m : FormatState) (o : AreOctets b) (p : AreOctets y) (ends : EndsEntry b) (f : FormedTo b written m) where
  abbrev n : ℕ
  n = length b

  abbrev TokenOn : List Piece → ℕ → ℕ → Type 0
  TokenOn found s e = (alone : List (Result Piece Fault)) × (c : Continues b y m.above alone) × HasTokenAfter (b ++ y) (c.front ++ map (onward b) found) (n + s) (n + e)

  token_on : (found : List Piece) (s e : ℕ) → HasTokenAfter y found s e → TokenOn found s e
  token_on found s e (more, inl w) =
      let c = continues b y written m (map Ok found ++ Ok (word_at s e) ∷ more) o p ends f w in
      (map Ok found ++ Ok (word_at s e) ∷ more, c, (later n more, inl (items_on b y m.above found (Ok (word_at s e)) more c)))
  token_on found s e (more, inr q) =
      let c = continues b y written m (map Ok found ++ Ok (quote_at s e) ∷ more) o p ends f q in
      (map Ok found ++ Ok (quote_at s e) ∷ more, c, (later n more, inr (items_on b y m.above found (Ok (quote_at s e)) more c)))

  pub nul_on : (at : ℕ) → HasFirstError m.above y (NulAt at) → HasFirstError Nothing (b ++ y) (NulAt (n + at))
  nul_on at (found, s, e, token, start, less, within, zero_there, formed) =
      let t = token_on found s e token in (
        t.1.front ++ map (onward b) found,
        n + s,
        n + e,
        t.2,
        omega (arith, start),
        omega (arith, less),
        omega (arith, within, length-append b y),
        get_or-append-add b y at 0 ∙ zero_there,
        formed_cut b y m.above t.0 t.1 found s at ∙ formed,
      )

  pub mark_on : (at : ℕ) → HasFirstError m.above y (OrderMarkAt at) → HasFirstError Nothing (b ++ y) (OrderMarkAt (n + at))
  mark_on at (found, e, token, start, within, marked, formed, unformed) =
      let t = token_on found at e token in
      let same : between (b ++ y) (n + at) (n + e) ≡ between y at e = between_back b y at e in
      let end : n + at + order_mark_length (between (b ++ y) (n + at) (n + e)) ≡ n + (at + order_mark_length (between y at e)) = omega (arith, ap order_mark_length same) in (
        t.1.front ++ map (onward b) found,
        n + e,
        t.2,
        omega (arith, start),
        omega (arith, within, length-append b y),
        ap begins_order_mark same ∙ marked,
        t.1.formed found ∙ formed,
        ap (λ i. have_form Nothing (b ++ y) ((t.1.front ++ map (onward b) found) ++ word_at (n + at) i ∷ [])) end
            ∙ formed_cut b y m.above t.0 t.1 found at (at + order_mark_length (between y at e)) ∙ unformed,
      )

  pub wrong_on : (g : Fault) → HasFirstError m.above y (WrongAt g) → HasFirstError Nothing (b ++ y) (WrongAt (moved_fault (λ i. n + i) g))
  wrong_on g (within, bad, found, items, formed) =
      let c = continues b y written m (map Ok found ++ Err g ∷ []) o p ends f items in
      let k = fault_on b y found g o p ends items in
      (k.within, k.is, c.front ++ map (onward b) found, items_on b y m.above found (Err g) [] c, c.formed found ∙ formed)

-- ---- before more octets

-- the pieces before an offset end before the last octet, if that offset is before it
before_rest : (n s : ℕ) (rest : List (Result Piece Fault)) → ((i : ℕ) → Follows i rest → i ≤ s) → s < n → (zs : List Piece) (i : ℕ) → Follows i (map Ok zs ++ rest) → EachWithin n (map Ok zs) → EndBefore n zs × (i ≤ s)
before_rest n s rest k less [] i h w = (tt, k i h)
before_rest n s rest k less (WordAt p ∷ zs) i h w = let r = before_rest n s rest k less zs p.end h.1 w.1 in ((w.0.0, w.0.1, r.0), omega (arith, h.0, w.0.0, r.1))
before_rest n s rest k less (QuoteAt p ∷ zs) i h w = let r = before_rest n s rest k less zs p.end h.1 w.1 in ((w.0.0, w.0.1, r.0), omega (arith, h.0, w.0.0, r.1))
before_rest n s rest k less (CommentAt p ∷ zs) i h w = let r = before_rest n s rest k less zs p.end h.1 w.1 in ((w.0.0, w.0.1, r.0), omega (arith, h.0, w.0.0, r.1))
before_rest n s rest k less (EndAt p ∷ zs) i h w = let r = before_rest n s rest k less zs p.at h.1 w.1 in ((omega (arith, r.1, less), r.0), omega (arith, h.0, r.1))

in_time : (x : List ℕ) (found : List Piece) (s e : ℕ) → HasTokenAfter x found s e → s < length x → EndBefore (length x) found
in_time x found s e (more, inl w) less = (before_rest (length x) s (Ok (word_at s e) ∷ more) (λ i h. h.0) less found 0 (follow x _ w.0 w.1) (each_first (length x) found _ w.1)).0
in_time x found s e (more, inr q) less = (before_rest (length x) s (Ok (quote_at s e) ∷ more) (λ i h. h.0) less found 0 (follow x _ q.0 q.1) (each_first (length x) found _ q.1)).0

-- if each token that follows pieces of octets also does with more octets, the first error stays
module _ (x z : List ℕ) (above : Above) (stays : (found : List Piece) (s e : ℕ) → HasTokenAfter x found s e → HasTokenAfter (x ++ z) found s e) where
  formed_first : (found : List Piece) → 0 < length x → EndBefore (length x) found → have_form above (x ++ z) found ≡ have_form above x found
  formed_first found some w = ap (may_follow above) (all_first x z found some w)

  with_token : (found : List Piece) (s e : ℕ) → s ≤ e → e ≤ length x → EndBefore (length x) found → EndBefore (length x) (found ++ word_at s e ∷ [])
  with_token found s e order within w = before_append (length x) found (word_at s e ∷ []) w (order, within, tt)

  pub nul_first : (at : ℕ) → HasFirstError above x (NulAt at) → HasFirstError above (x ++ z) (NulAt at)
  nul_first at (found, s, e, token, start, less, within, zero_there, formed) =
      let w = in_time x found s e token (omega (arith, start, less, within)) in
      let here : at < length x = omega (arith, less, within) in (
        found,
        s,
        e,
        stays found s e token,
        start,
        less,
        omega (arith, within, length-append x z),
        get_or_append_left x z 0 at here ∙ zero_there,
        formed_first (found ++ word_at s at ∷ []) (omega (arith, here)) (with_token found s at start (omega (arith, here)) w) ∙ formed,
      )

  pub mark_first : (at : ℕ) → HasFirstError above x (OrderMarkAt at) → HasFirstError above (x ++ z) (OrderMarkAt at)
  mark_first at (found, e, token, start, within, marked, formed, unformed) =
      let t : List ℕ = between x at e in
      let fits : order_mark_length t ≤ e - at = omega (arith, mark_fits t, length-take (e - at) (drop at x)) in
      let some : 0 < order_mark_length t = ltb-true 0 (order_mark_length t) marked in
      let here : at < length x = omega (arith, some, fits, within) in
      let w = in_time x found at e token here in
      let same : between (x ++ z) at e ≡ t = between_front x z at e start within in (
        found,
        e,
        stays found at e token,
        start,
        omega (arith, within, length-append x z),
        ap begins_order_mark same ∙ marked,
        formed_first found (omega (arith, here)) w ∙ formed,
        ap (λ l. have_form above (x ++ z) (found ++ word_at at (at + order_mark_length l) ∷ [])) same
            ∙ formed_first (found ++ word_at at (at + order_mark_length t) ∷ []) (omega (arith, here)) (with_token found at (at + order_mark_length t) (omega arith) (omega (arith, fits, within, start)) w) ∙ unformed,
      )

-- a token isn't the last end of an entry
abbrev IsNoEnd : Piece → Type 0
IsNoEnd x = (i : ℕ) → x ≡ end_at i false → ⊥

cut_front : (front found : List Piece) (i : ℕ) (x : Piece) (more rest : List (Result Piece Fault)) → IsNoEnd x → map Ok front ++ Ok (end_at i false) ∷ [] ≡ map Ok found ++ Ok x ∷ more
    → (other : List (Result Piece Fault)) × (map Ok front ++ rest ≡ map Ok found ++ Ok x ∷ other)
cut_front [] [] i x more rest other_kind h = let same : x ≡ end_at i false = cc in absurd (other_kind i same)
cut_front [] (y ∷ []) i x more rest other_kind h = cc
cut_front [] (y ∷ z ∷ ys) i x more rest other_kind h = cc
cut_front (f ∷ front) [] i x more rest other_kind h = let same : Ok f ≡ Ok x = cc in (map Ok front ++ rest, ap (λ e. e ∷ (map Ok front ++ rest)) same)
cut_front (f ∷ front) (y ∷ ys) i x more rest other_kind h =
    let same : Ok f ≡ Ok y = cc in
    let tail : map Ok front ++ Ok (end_at i false) ∷ [] ≡ map Ok ys ++ Ok x ∷ more = cc in
    let r = cut_front front ys i x more rest other_kind tail in
    (r.0, ap (λ e. e ∷ (map Ok front ++ rest)) same ∙ ap (λ l. Ok y ∷ l) r.1)

-- of whole entries
ended_item : (x z : List ℕ) (found : List Piece) (t : Piece) (more : List (Result Piece Fault)) → AreOctets x → AreOctets z → EndsEntry x → IsNoEnd t → AreItemsOf x (map Ok found ++ Ok t ∷ more)
    → (other : List (Result Piece Fault)) × AreItemsOf (x ++ z) (map Ok found ++ Ok t ∷ other)
ended_item x z found t more o p ends other_kind g =
    let read : (given : List (Result Piece Fault)) × AreItemsOf z given = (_, run_given z p) in
    let r = read_on x z read.0 o p ends read.1 in
    let same = given_once x (map Ok r.front ++ Ok (end_at (length x) false) ∷ []) (map Ok found ++ Ok t ∷ more) r.own g in
    let c = cut_front r.front found (length x) t more (later (length x) read.0) other_kind same in
    (c.0, subst (AreItemsOf (x ++ z)) c.1 r.is)

pub stays_ended : (x z : List ℕ) → AreOctets x → AreOctets z → EndsEntry x → (found : List Piece) (s e : ℕ) → HasTokenAfter x found s e → HasTokenAfter (x ++ z) found s e
stays_ended x z o p ends found s e (more, inl w) = let r = ended_item x z found (word_at s e) more o p ends (λ i h. cc) w in (r.0, inl r.1)
stays_ended x z o p ends found s e (more, inr q) = let r = ended_item x z found (quote_at s e) more o p ends (λ i h. cc) q in (r.0, inr r.1)

-- of octets with an error that stays
bad_item : (x more : List ℕ) (f : Fault) (given : List (Result Piece Fault)) → AreOctets x → AreOctets more → Settled x (Err f) → AreItemsOf x given → AreItemsOf (x ++ more) given
bad_item x more f given o m b g =
    let own : List (Result Piece Fault) = map Ok b.0 ++ Err f ∷ [] in
    subst (AreItemsOf (x ++ more)) (given_once x own given b.1 g) (faults_stay x more b.0 f o m b.1 b.2)

pub stays_bad : (x more : List ℕ) (f : Fault) → AreOctets x → AreOctets more → Settled x (Err f) → (found : List Piece) (s e : ℕ) → HasTokenAfter x found s e → HasTokenAfter (x ++ more) found s e
stays_bad x more f o m b found s e (rest, inl w) = (rest, inl (bad_item x more f _ o m b w))
stays_bad x more f o m b found s e (rest, inr q) = (rest, inr (bad_item x more f _ o m b q))

-- the pieces before a syntax error that isn't at the end
each_back : (x : List ℕ) (m at : ℕ) → m ≤ place_of x at → at < length x → (ps : List Piece) → EachWithin (length x) (map Ok ps) → EachWithin m (map Ok (map (moved_piece (place_of x)) ps)) → EndBefore (length x) ps
each_back x m at h less [] w k = tt
each_back x m at h less (WordAt p ∷ ps) w k = (w.0.0, w.0.1, each_back x m at h less ps w.1 k.1)
each_back x m at h less (QuoteAt p ∷ ps) w k = (w.0.0, w.0.1, each_back x m at h less ps w.1 k.1)
each_back x m at h less (CommentAt p ∷ ps) w k = (w.0.0, w.0.1, each_back x m at h less ps w.1 k.1)
each_back x m at h less (EndAt p ∷ ps) w k = let within : place_of x p.at ≤ place_of x at = omega (arith, k.0, h) in (omega (arith, back x p.at at w.0 within, less), each_back x m at h less ps w.1 k.1)

some_same : {a b : Fault} → Some a ≡ Some b → a ≡ b
some_same e = cc

before_wrong : (x : List ℕ) (found : List Piece) (g : Fault) → AreItemsOf x (map Ok found ++ Err g ∷ []) → g.at < length x → EndBefore (length x) found
before_wrong x found g items less = go items.0
  where
    given : List (Result Piece Fault)
    given = map Ok found ++ Err g ∷ []

    faults : first_fault (map (moved (place_of x)) given) ≡ Some (moved_fault (place_of x) g)
    faults = moved_first (place_of x) given ∙ ap (option_map (moved_fault (place_of x))) (fault_after found (Err g ∷ []))

    are : pieces_in (map (moved (place_of x)) given) ≡ map (moved_piece (place_of x)) found
    are = pieces_moved (place_of x) given ∙ ap (map (moved_piece (place_of x))) (pieces_after found (Err g ∷ []) ∙ append-nil found)

    go : Reads (encode_utf8_all x) (map (moved (place_of x)) given) → EndBefore (length x) found
    go (inl w) = let other_kind : None ≡ Some (moved_fault (place_of x) g) = sym (ap first_fault w.is ∙ first_of_oks w.found) ∙ faults in cc
    go (inr d) =
        let same : d.found ≡ map (moved_piece (place_of x)) found = sym (ap pieces_in d.is ∙ pieces_after d.found (Err d.fault ∷ []) ∙ append-nil d.found) ∙ are in
        let fault : d.fault ≡ moved_fault (place_of x) g = some_same (sym (ap first_fault d.is ∙ fault_after d.found (Err d.fault ∷ [])) ∙ faults) in
        let short : length (take d.fault.at (encode_utf8_all x)) ≤ place_of x g.at = omega (arith, length-take d.fault.at (encode_utf8_all x), ap (λ (e : Fault). e.at) fault) in
        each_back x (length (take d.fault.at (encode_utf8_all x))) g.at short less found (each_first (length x) found _ items.1) (subst (λ l. EachWithin (length (take d.fault.at (encode_utf8_all x))) (map Ok l)) same d.settled.ended)

-- the fault of octets is one
pub same_fault : (x : List ℕ) (found : List Piece) (f g : Fault) → Settled x (Err f) → AreItemsOf x (map Ok found ++ Err g ∷ []) → f ≡ g
same_fault x found f g b items = some_same (sym (fault_after b.0 (Err f ∷ [])) ∙ ap first_fault (given_once x (map Ok b.0 ++ Err f ∷ []) (map Ok found ++ Err g ∷ []) b.1 items) ∙ fault_after found (Err g ∷ []))

pub wrong_first : (x more : List ℕ) (above : Above) (f g : Fault) → AreOctets x → AreOctets more → Settled x (Err f) → HasFirstError above x (WrongAt g) → HasFirstError above (x ++ more) (WrongAt g)
wrong_first x more above f g o m b (within, bad, found, items, formed) =
    let less : g.at < length x = subst (λ (e : Fault). e.at < length x) (same_fault x found f g b items) b.2 in
    let on = bad_item x more f (map Ok found ++ Err g ∷ []) o m b items in
    let k = fault_alone (x ++ more) found g on in
    (k.within, k.is, found, on, ap (may_follow above) (all_first x more found (omega (arith, less)) (before_wrong x found g items less)) ∙ formed)
