-- The items are parts of the text.
use Rattle.std.proofs.Common.{◌≡◌, ℕ, ◌+◌, ◌<◌, ◌≤◌, Bool, true, false, cond, ◌==◌, List, [], ◌∷◌, ◌++◌, length, refl, sym, ap, ◌∙◌, subst, arith, append_assoc, append-nil, length-append, inl}
use Rattle.std.proofs.Common.{inr, IsUtf8, get_or, take, drop}
use Rattle.std.specs.Prelude.{⊤, Option, Some, None, map, Result, Ok, Err}
use Rattle.std.specs.Str.{IsCharBoundary}
use Rattle.std.proofs.lemmas.Bool.{cases_lt, cond_both}
use Rattle.std.proofs.lemmas.List.{take-append-drop, length-drop, length-take-le}
use Rattle.std.proofs.lemmas.Str.{IsCharBoundary-start, IsCharBoundary-end, IsCharBoundary-before_ascii, IsCharBoundary-after_ascii}
use Rattle.std.proofs.Math.Seq.{get_or-append_seam}
use Rattle.dns_lexer.specs.declared.reader.Mode.{Mode}
use Rattle.dns_lexer.specs.declared.reader.Mode.TheVariants.{Outside, Quoted, Comment, Return, Escape, OneDigit, TwoDigits}
use Rattle.dns_lexer.specs.declared.reader.Act.{Act}
use Rattle.dns_lexer.specs.declared.reader.Act.TheVariants.{Add, BeginToken, EndToken, EndEntry, FinishToken}
use Rattle.dns_lexer.specs.declared.reader.Move.{Move}
use Rattle.dns_lexer.specs.declared.pieces.Piece.{Piece}
use Rattle.dns_lexer.specs.declared.pieces.Piece.TheVariants.{Word as WordAt, Quote as QuoteAt, Comment as CommentAt, End as EndAt}
use Rattle.dns_lexer.specs.declared.pieces.Fault.{Fault}
use Rattle.dns_lexer.specs.Reader.{step, may_end}
use Rattle.dns_lexer.specs.Pieces.{word_at, Reads, EachFits, IsPartOf, EachIsPart, EachWithin}
use Rattle.dns_lexer.specs.Run.{open_piece, continues_piece, before, closed_piece, finished, start_after, opens, in_comment, next_open, first_blank, blank_after, run}
use Rattle.dns_lexer.proofs.Viable.{high_is}
use Rattle.dns_lexer.proofs.PieceSteps.{run_step, run_stop}

-- each offset has Q, and an error's R
module _ (Q R : ℕ → Type 0) where
  pub record IsSpan (s e : ℕ) : Type 0 where
    pub ordered : s ≤ e
    pub starts : Q s
    pub ends : Q e

  abbrev pub Part : Result Piece Fault → Type 0
  Part (Ok (WordAt p)) = IsSpan p.start p.end
  Part (Ok (QuoteAt p)) = IsSpan p.start p.end
  Part (Ok (CommentAt p)) = IsSpan p.start p.end
  Part (Ok (EndAt p)) = Q p.at
  Part (Err f) = R f.at

  abbrev pub Parts : List (Result Piece Fault) → Type 0
  Parts [] = ⊤
  Parts (x ∷ xs) = Part x × Parts xs

  abbrev pub Maybe : Option Piece → Type 0
  Maybe None = ⊤
  Maybe (Some p) = Part (Ok p)

  put : (o : Option Piece) (k : List (Result Piece Fault)) → Maybe o → Parts k → Parts (before o k)
  put None k h r = r
  put (Some p) k h r = (h, r)

  word_part : (t : Bool) (s at : ℕ) → IsSpan s at → Maybe (cond t None (Some (word_at s at)))
  word_part true s at h = tt
  word_part false s at h = h

  open_part : (m : Mode) (s at : ℕ) → IsSpan s at → Maybe (open_piece m s at)
  open_part Comment s at h = h
  open_part Outside s at h = word_part (s == at) s at h
  open_part Quoted s at h = word_part (s == at) s at h
  open_part Return s at h = word_part (s == at) s at h
  open_part (Escape q) s at h = word_part (s == at) s at h
  open_part (OneDigit q n) s at h = word_part (s == at) s at h
  open_part (TwoDigits q n) s at h = word_part (s == at) s at h

  closed_part : (m n : Mode) (a : Act) (s at : ℕ) → IsSpan s at → Maybe (closed_piece m n a s at)
  closed_part m n a s at h = cond_both (continues_piece m n a) None (open_piece m s at) Maybe (λ _. tt) (λ _. open_part m s at h)

  finished_part : (a : Act) (s e : ℕ) (b : Bool) → IsSpan s e → Maybe (finished a s e b)
  finished_part FinishToken s e b h = h
  finished_part EndEntry s e b h = h.ends
  finished_part EndToken s e b h = tt
  finished_part BeginToken s e b h = tt
  finished_part Add s e b h = tt

  -- where what is open may begin
  abbrev Begins : ℕ → ℕ → Type 0
  Begins s at = (s ≤ at) × Q s

  opens_at : (n : Mode) (at : ℕ) → Q at → Q (at + 1) → Begins (opens n at) (at + 1)
  opens_at Comment at p q = (omega arith, p)
  opens_at Outside at p q = (omega arith, q)
  opens_at Quoted at p q = (omega arith, q)
  opens_at Return at p q = (omega arith, q)
  opens_at (Escape w) at p q = (omega arith, q)
  opens_at (OneDigit w n) at p q = (omega arith, q)
  opens_at (TwoDigits w n) at p q = (omega arith, q)

  in_comment_at : (n : Mode) (s at : ℕ) → Begins s at → Q (at + 1) → Begins (in_comment n s at) (at + 1)
  in_comment_at Comment s at h q = (omega (arith, h.0), h.1)
  in_comment_at Outside s at h q = (omega arith, q)
  in_comment_at Quoted s at h q = (omega arith, q)
  in_comment_at Return s at h q = (omega arith, q)
  in_comment_at (Escape w) s at h q = (omega arith, q)
  in_comment_at (OneDigit w n) s at h q = (omega arith, q)
  in_comment_at (TwoDigits w n) s at h q = (omega arith, q)

  next_at : (m n : Mode) (s at : ℕ) → Begins s at → Q at → Q (at + 1) → Begins (next_open m n s at) (at + 1)
  next_at Comment n s at h p q = in_comment_at n s at h q
  next_at Outside n s at h p q = opens_at n at p q
  next_at Quoted n s at h p q = opens_at n at p q
  next_at Return n s at h p q = opens_at n at p q
  next_at (Escape w) n s at h p q = opens_at n at p q
  next_at (OneDigit w k) n s at h p q = opens_at n at p q
  next_at (TwoDigits w k) n s at h p q = opens_at n at p q

  start_at : (m n : Mode) (a : Act) (s at : ℕ) → Begins s at → Q at → Q (at + 1) → Begins (start_after m n a s at) (at + 1)
  start_at m n Add s at h p q = (omega (arith, h.0), h.1)
  start_at m n BeginToken s at h p q = (omega arith, p)
  start_at m n EndToken s at h p q = next_at m n s at h p q
  start_at m n EndEntry s at h p q = (omega arith, q)
  start_at m n FinishToken s at h p q = (omega arith, q)

  -- the reader is right from here
  abbrev pub RightParts : ℕ → List ℕ → Type 0
  RightParts at bs = (m : Mode) (d s : ℕ) (b : Bool) → s ≤ at → Q s → Parts (run m d s at b bs)

  low_parts : (bs : List ℕ) (at c : ℕ) → Q at → Q (at + 1) → R at → RightParts (at + 1) bs → RightParts at (c ∷ bs)
  low_parts bs at c p q r ih m d s b h k = go (step m d c) refl
    where
      go : (o : Option Move) → step m d c ≡ o → Parts (run m d s at b (c ∷ bs))
      go None e = subst Parts (sym (run_stop m d s at b c bs e)) (r, tt)
      go (Some v) e =
          let n = start_at m v.mode v.act s at (h, k) p q in
          subst Parts (sym (run_step m d s at b c bs v e))
          (put (closed_piece m v.mode v.act s at) _ (closed_part m v.mode v.act s at (record { ordered = h; starts = k; ends = p }))
          (put (finished v.act s (at + 1) b) _ (finished_part v.act s (at + 1) b (record { ordered = omega arith; starts = k; ends = q }))
          (ih v.mode v.depth (start_after m v.mode v.act s at) (blank_after v.act b bs) n.0 n.1)))

  high_parts : (bs : List ℕ) (at c : ℕ) → 128 ≤ c → R at → RightParts (at + 1) bs → RightParts at (c ∷ bs)
  high_parts bs at c big r ih Outside d s b h k = subst Parts (sym (run_step Outside d s at b c bs _ (high_is Outside d c big))) (ih Outside d s b (omega arith) k)
  high_parts bs at c big r ih Quoted d s b h k = subst Parts (sym (run_step Quoted d s at b c bs _ (high_is Quoted d c big))) (ih Quoted d s b (omega arith) k)
  high_parts bs at c big r ih Comment d s b h k = subst Parts (sym (run_step Comment d s at b c bs _ (high_is Comment d c big))) (ih Comment d s b (omega arith) k)
  high_parts bs at c big r ih Return d s b h k = subst Parts (sym (run_stop Return d s at b c bs (high_is Return d c big))) (r, tt)
  high_parts bs at c big r ih (Escape q) d s b h k = subst Parts (sym (run_stop (Escape q) d s at b c bs (high_is (Escape q) d c big))) (r, tt)
  high_parts bs at c big r ih (OneDigit q n) d s b h k = subst Parts (sym (run_stop (OneDigit q n) d s at b c bs (high_is (OneDigit q n) d c big))) (r, tt)
  high_parts bs at c big r ih (TwoDigits q n) d s b h k = subst Parts (sym (run_stop (TwoDigits q n) d s at b c bs (high_is (TwoDigits q n) d c big))) (r, tt)

  end_parts : (at : ℕ) → Q at → R at → RightParts at []
  end_parts at p r m d s b h k = cond_both (may_end m d) _ _ Parts (λ _. put (open_piece m s at) _ (open_part m s at (record { ordered = h; starts = k; ends = p })) (p, tt)) (λ _. (r, tt))

-- of a text the places are character boundaries
abbrev TextParts : List ℕ → List (Result Piece Fault) → Type 0
TextParts text l = Parts (IsCharBoundary text) (λ _. ⊤) l

right_parts : (text front bs : List ℕ) (at : ℕ) → IsUtf8 text → front ++ bs ≡ text → at ≡ length front → RightParts (IsCharBoundary text) (λ _. ⊤) at bs
right_parts text front [] at u e k = end_parts (IsCharBoundary text) (λ _. ⊤) at
    (subst (IsCharBoundary text) (omega (arith, k, ap length (sym e), length-append front [])) (IsCharBoundary-end text)) tt
right_parts text front (c ∷ bs) at u e k =
    let ih = right_parts text (front ++ c ∷ []) bs (at + 1) u (append_assoc front (c ∷ []) bs ∙ e) (omega (arith, k, length-append front (c ∷ []))) in
    let room : at < length text = omega (arith, k, ap length (sym e), length-append front (c ∷ bs)) in
    let is : get_or text at 0 ≡ c = ap (λ n. get_or text n 0) k ∙ ap (λ l. get_or l (length front) 0) (sym e) ∙ get_or-append_seam front c bs 0 in
    elim (cases_lt c 128) [
      | inl small ↦ low_parts (IsCharBoundary text) (λ _. ⊤) bs at c (IsCharBoundary-before_ascii text at room (omega (arith, is, small)))
          (IsCharBoundary-after_ascii text at u room (omega (arith, is, small))) tt ih
      | inr big ↦ high_parts (IsCharBoundary text) (λ _. ⊤) bs at c big tt ih
    ]

part_of : (text : List ℕ) (x : Result Piece Fault) → Part (IsCharBoundary text) (λ _. ⊤) x → IsPartOf text x
part_of text (Ok (WordAt p)) h = record { ordered = h.ordered; starts = h.starts; ends = h.ends }
part_of text (Ok (QuoteAt p)) h = record { ordered = h.ordered; starts = h.starts; ends = h.ends }
part_of text (Ok (CommentAt p)) h = record { ordered = h.ordered; starts = h.starts; ends = h.ends }
part_of text (Ok (EndAt p)) h = h
part_of text (Err f) h = tt

parts_of : (text : List ℕ) (l : List (Result Piece Fault)) → TextParts text l → EachIsPart text l
parts_of text [] h = tt
parts_of text (x ∷ xs) h = (part_of text x h.0, parts_of text xs h.1)

-- from a boundary on, each piece is a part
pub each_is_part : (text : List ℕ) (at : ℕ) → IsUtf8 text → IsCharBoundary text at → EachIsPart text (run Outside 0 at at (first_blank (drop at text)) (drop at text))
each_is_part text at u p = parts_of text _ (right_parts text (take at text) (drop at text) at u (take-append-drop at text) (sym (length-take-le at text p.0)) Outside 0 at
    (first_blank (drop at text)) (omega arith) p)

-- parts, and the text's error
all_fit : (text : List ℕ) (found : List Piece) (k : List (Result Piece Fault)) → EachFits text k → EachIsPart text (map Ok found ++ k) → EachFits text (map Ok found ++ k)
all_fit text [] k h p = h
all_fit text (x ∷ xs) k h p = (p.0, all_fit text xs k h p.1)

fit : (text : List ℕ) (l : List (Result Piece Fault)) → Reads text l → EachIsPart text l → EachFits text l
fit text l (inl w) p = subst (EachFits text) (append-nil _ ∙ sym w.is) (all_fit text w.found [] tt (subst (EachIsPart text) (w.is ∙ sym (append-nil _)) p))
fit text l (inr f) p = subst (EachFits text) (sym f.is) (all_fit text f.found _ (f.is_fault, tt) (subst (EachIsPart text) f.is p))

pub each_fits : (text : List ℕ) → IsUtf8 text → Reads text (run Outside 0 0 0 (first_blank text) text) → EachFits text (run Outside 0 0 0 (first_blank text) text)
each_fits text u r = fit text _ r (each_is_part text 0 u (IsCharBoundary-start text u))

-- of octets the places are within
right_within : (n : ℕ) (bs : List ℕ) (at : ℕ) → at + length bs ≡ n → RightParts (λ i. i ≤ n) (λ i. i ≤ n) at bs
right_within n [] at e = end_parts (λ i. i ≤ n) (λ i. i ≤ n) at (omega arith) (omega arith)
right_within n (c ∷ bs) at e = low_parts (λ i. i ≤ n) (λ i. i ≤ n) bs at c (omega arith) (omega arith) (omega arith) (right_within n bs (at + 1) (omega arith))

within_of : (n : ℕ) (l : List (Result Piece Fault)) → Parts (λ i. i ≤ n) (λ i. i ≤ n) l → EachWithin n l
within_of n [] h = tt
within_of n (Ok (WordAt p) ∷ xs) h = ((h.0.ordered, h.0.ends), within_of n xs h.1)
within_of n (Ok (QuoteAt p) ∷ xs) h = ((h.0.ordered, h.0.ends), within_of n xs h.1)
within_of n (Ok (CommentAt p) ∷ xs) h = ((h.0.ordered, h.0.ends), within_of n xs h.1)
within_of n (Ok (EndAt p) ∷ xs) h = (h.0, within_of n xs h.1)
within_of n (Err f ∷ xs) h = (h.0, within_of n xs h.1)

pub each_within : (octets : List ℕ) (b : Bool) → EachWithin (length octets) (run Outside 0 0 0 b octets)
each_within octets b = within_of (length octets) _ (right_within (length octets) octets 0 (omega arith) Outside 0 0 b (omega arith) (omega arith))

pub within_from : (octets : List ℕ) (at : ℕ) → at ≤ length octets → EachWithin (length octets) (run Outside 0 at at (first_blank (drop at octets)) (drop at octets))
within_from octets at h = within_of (length octets) _ (right_within (length octets) (drop at octets) at (omega (arith, length-drop at octets)) Outside 0 at (first_blank (drop at octets))
    (omega arith) h)
