-- The tokens of the pieces that remain at a position.
use Rattle.std.proofs.Common.{◌≡◌, ℕ, ◌+◌, ◌<◌, ◌≤◌, true, false, Bool, List, [], ◌∷◌, length, drop, cond, refl, inl, inr, sym, ap, ◌∙◌, subst, arith}
use Rattle.std.specs.Prelude.{⊤, Option, Some, None, option_map, is_some, IfSome, Result, Ok, Err}
use Rattle.std.specs.Iterator.{YieldsFirstBy}
use Rattle.dns_lexer.specs.declared.entry_tokens.EntryPart.{EntryPart}
use Rattle.dns_lexer.specs.declared.pieces.Piece.{Piece}
use Rattle.dns_lexer.specs.declared.pieces.Piece.TheVariants.{Word as WordAt, Quote as QuoteAt, Comment as CommentAt, End as EndAt}
use Rattle.dns_lexer.specs.declared.pieces.Fault.{Fault}
use Rattle.dns_lexer.specs.declared.reader.Mode.{Mode}
use Rattle.dns_lexer.specs.declared.reader.Mode.TheVariants.{Outside}
use Rattle.dns_lexer.specs.declared.reader.Move.{Move}
use Rattle.dns_lexer.specs.declared.cursor_state.CursorState.{CursorState}
use Rattle.dns_lexer.specs.Reader.{step, may_end}
use Rattle.dns_lexer.specs.Pieces.{AreOctets, end_at, next_blank}
use Rattle.dns_lexer.specs.Run.{before, blank_after, closed_piece, fault, finished, open_piece, run, start_after, wrong_at_end}
use Rattle.dns_lexer.specs.CursorStates.{YieldsNextPiece, ahead, at_entry, began_after, blank_at, with_answer}
use Rattle.dns_lexer.specs.EntryTokens.{IsInEntries, IsOpen, IsSeen, IsSeenFrom, IsWide, PartSeen, IsOffsetAtDepth, answer_seen, ended_after, seen_from, seen_of}
use Rattle.dns_lexer.proofs.PieceSteps.{run_step, run_stop}
use Rattle.dns_lexer.proofs.Standings.{entry_left, left_ahead, left_blank, left_once}
use Rattle.dns_lexer.proofs.EntrySpans.{left_quoted, quoted_wide}
use Rattle.dns_lexer.proofs.OctetsOnce.{run_given}

-- what is seen of a piece, if it is seen, before what is seen of the others
abbrev pub with_seen : Option (Result PartSeen Fault) → List (Result PartSeen Fault) → List (Result PartSeen Fault)
with_seen None seen = seen
with_seen (Some x) seen = x ∷ seen

pub seen_step : (octets : List ℕ) (began : ℕ) (ended : Option ℕ) (x : Result Piece Fault) (given : List (Result Piece Fault))
    → seen_from octets began ended (x ∷ given) ≡ with_seen (seen_of octets (blank_at octets began) ended x) (seen_from octets (began_after x began) (ended_after x ended) given)
seen_step octets began ended (Ok (WordAt p)) given = refl
seen_step octets began ended (Ok (QuoteAt p)) given = refl
seen_step octets began ended (Ok (CommentAt p)) given = refl
seen_step octets began ended (Ok (EndAt e)) given = refl
seen_step octets began ended (Err f) given = refl

module _ (octets : List ℕ) (s t : CursorState) (ok : AreOctets octets) where
  -- a call consumes the first item that the machine yields
  pub takes_ahead : (answer : Option (Result Piece Fault)) → YieldsNextPiece octets s answer t → ahead octets s ≡ with_answer answer (ahead octets t)
  takes_ahead answer h =
      left_once octets s (ahead octets s) (with_answer answer h.left) (left_ahead octets s ok) h.before
      ∙ ap (with_answer answer) (left_once octets t h.left (ahead octets t) h.after (left_ahead octets t ok))

  -- or there was none
  pub takes_none : YieldsNextPiece octets s None t → ahead octets t ≡ []
  takes_none h = left_once octets t (ahead octets t) h.left (left_ahead octets t ok) h.after ∙ h.none refl

  -- and a quoted string includes its double quotes
  pub takes_wide : (x : Result Piece Fault) → YieldsNextPiece octets s (Some x) t → IsWide x
  takes_wide x h = quoted_wide octets x (left_quoted octets s (x ∷ h.left) h.before).0

-- from the start all is seen
pub starts : (octets : List ℕ) → AreOctets octets → IsSeen octets (seen_from octets 0 None (ahead octets (at_entry 0)))
starts octets ok = (ahead octets (at_entry 0), run_given octets ok, refl)

-- and from an entry's beginning on
pub starts_from : (octets : List ℕ) (at : ℕ) → AreOctets octets → IsSeenFrom octets at (seen_from octets at None (ahead octets (at_entry at)))
starts_from octets at ok = (ahead octets (at_entry at), entry_left octets at ok (ahead octets (at_entry at)) (left_ahead octets (at_entry at) ok), refl)

-- a consumed piece is a token, or is skipped
pub seen_taken : (octets : List ℕ) (s t : CursorState) (ended : Option ℕ) (x : Result Piece Fault) → AreOctets octets → YieldsNextPiece octets s (Some x) t → t.began ≡ began_after x s.began
    → seen_from octets s.began ended (ahead octets s) ≡ with_seen (seen_of octets (blank_at octets s.began) ended x) (seen_from octets t.began (ended_after x ended) (ahead octets t))
seen_taken octets s t ended x ok takes began =
    ap (seen_from octets s.began ended) (takes_ahead octets s t ok (Some x) takes) ∙ seen_step octets s.began ended x (ahead octets t)
    ∙ ap (λ i. with_seen (seen_of octets (blank_at octets s.began) ended x) (seen_from octets i (ended_after x ended) (ahead octets t))) (sym began)

-- by what a caller gets of it
pub seen_more : (octets : List ℕ) (s t : CursorState) (ended : Option ℕ) (x : Result Piece Fault) (part : Option (Result EntryPart Fault)) → AreOctets octets → YieldsNextPiece octets s (Some x) t
    → t.began ≡ began_after x s.began → option_map answer_seen part ≡ seen_of octets (blank_at octets s.began) ended x
    → seen_from octets s.began ended (ahead octets s) ≡ with_seen (option_map answer_seen part) (seen_from octets t.began (ended_after x ended) (ahead octets t))
seen_more octets s t ended x part ok takes began same =
    seen_taken octets s t ended x ok takes began ∙ ap (λ p. with_seen p (seen_from octets t.began (ended_after x ended) (ahead octets t))) (sym same)

-- the first that is seen, and the others
pub taken_part : (part : Option (Result EntryPart Fault)) (old new : List (Result PartSeen Fault)) → is_some part ≡ true → old ≡ with_seen (option_map answer_seen part) new
    → YieldsFirstBy answer_seen (λ (left : List (Result PartSeen Fault)). left) old part new
taken_part (Some y) old new h e = e
taken_part None old new h e = cc

-- and nothing else if it is skipped
pub passed_part : (part : Option (Result EntryPart Fault)) (old new : List (Result PartSeen Fault)) → is_some part ≡ false → old ≡ with_seen (option_map answer_seen part) new → old ≡ new
passed_part (Some y) old new h e = cc
passed_part None old new h e = e

pub fewer : (octets : List ℕ) (s t : CursorState) (x : Result Piece Fault) → AreOctets octets → YieldsNextPiece octets s (Some x) t → length (ahead octets t) < length (ahead octets s)
fewer octets s t x ok takes = omega (arith, ap length (takes_ahead octets s t ok (Some x) takes))

pub stands_at : (octets : List ℕ) (at : ℕ) → AreOctets octets → at ≤ length octets → IsOffsetAtDepth octets (at_entry at)
stands_at octets at ok within = record { are_octets = ok; deep = omega arith; within = within }

-- the items of the machine have an end, or an error, which is the last
abbrev Closes : List (Result Piece Fault) → Type 0
Closes [] = ⊥
Closes (Ok (EndAt e) ∷ given) = ⊤
Closes (Ok _ ∷ given) = Closes given
Closes (Err f ∷ given) = given ≡ []

before_closes : (o : Option Piece) (given : List (Result Piece Fault)) → Closes given → Closes (before o given)
before_closes None given h = h
before_closes (Some (WordAt p)) given h = h
before_closes (Some (QuoteAt p)) given h = h
before_closes (Some (CommentAt p)) given h = h
before_closes (Some (EndAt e)) given h = tt

run_closes : (bs : List ℕ) (m : Mode) (d s at : ℕ) (b : Bool) → Closes (run m d s at b bs)
run_closes [] m d s at b = go (may_end m d)
  where
    go : (t : Bool) → Closes (cond t (before (open_piece m s at) (Ok (end_at at b) ∷ [])) (fault at (wrong_at_end m s)))
    go true = before_closes (open_piece m s at) (Ok (end_at at b) ∷ []) tt
    go false = refl
run_closes (c ∷ bs) m d s at b = go (step m d c) refl (λ (v : Move). run_closes bs v.mode v.depth (start_after m v.mode v.act s at) (at + 1) (blank_after v.act b bs))
  where
    go : (o : Option Move) → step m d c ≡ o → ((v : Move) → Closes (run v.mode v.depth (start_after m v.mode v.act s at) (at + 1) (blank_after v.act b bs) bs)) → Closes (run m d s at b (c ∷ bs))
    go None e ih = subst Closes (sym (run_stop m d s at b c bs e)) refl
    go (Some v) e ih = subst Closes (sym (run_step m d s at b c bs v e))
        (before_closes (closed_piece m v.mode v.act s at) _ (before_closes (finished v.act s (at + 1) b) _ (ih v)))

-- so an entry is open with the flag of its end
opens_with : (octets : List ℕ) (began : ℕ) (ended : Option ℕ) (given : List (Result Piece Fault)) → Closes given → IfSome (next_blank given) (λ x. blank_at octets began ≡ x)
    → IsOpen (blank_at octets began) (seen_from octets began ended given)
opens_with octets began ended [] h b = h
opens_with octets began ended (Ok (WordAt p) ∷ given) h b = (refl, opens_with octets began (Some p.end) given h b)
opens_with octets began ended (Ok (QuoteAt p) ∷ given) h b = (refl, opens_with octets began (Some p.end) given h b)
opens_with octets began ended (Ok (CommentAt p) ∷ given) h b = opens_with octets began ended given h b
opens_with octets began ended (Ok (EndAt e) ∷ given) h b = sym b
opens_with octets began ended (Err f ∷ given) h b = ap (seen_from octets began ended) h

pub in_entries : (octets : List ℕ) (s : CursorState) (ended : Option ℕ) → IsOffsetAtDepth octets s → IsInEntries (seen_from octets s.began ended (ahead octets s))
in_entries octets s ended h = go s.is_done refl
  where
    all : List (Result Piece Fault)
    all = run Outside s.depth s.at s.at (blank_at octets s.began) (drop s.at octets)

    go : (t : Bool) → s.is_done ≡ t → IsInEntries (seen_from octets s.began ended (ahead octets s))
    go true e = inl (ap (λ t. seen_from octets s.began ended (cond t [] all)) e)
    go false e =
        let same : ahead octets s ≡ all = ap (λ t. cond t [] all) e in
        inr (
          blank_at octets s.began,
          opens_with octets s.began ended (ahead octets s) (subst Closes (sym same) (run_closes (drop s.at octets) Outside s.depth s.at s.at (blank_at octets s.began)))
              (left_blank octets s (ahead octets s) h.are_octets (left_ahead octets s h.are_octets)),
        )
