-- Entries that are too long, whatever follows their octets.
use Rattle.std.proofs.Common.{◌≡◌, ℕ, suc, ◌+◌, ◌<◌, ◌≤◌, Bool, true, false, cond, List, [], ◌∷◌, ◌++◌, length, take, drop, refl, sym, ap, ◌∙◌, subst, arith, inl, inr, length-append}
use Rattle.std.specs.Prelude.{◌⊎◌, map, Option, Some, None, Result, Ok, Err}
use Rattle.std.proofs.lemmas.Bool.{cases_lt}
use Rattle.std.proofs.lemmas.List.{take-append-drop, take-append-le}
use Rattle.dns_lexer.specs.declared.pieces.EndOfEntry.{EndOfEntry}
use Rattle.dns_lexer.specs.declared.pieces.Fault.{Fault}
use Rattle.dns_lexer.specs.declared.pieces.Piece.{Piece}
use Rattle.dns_lexer.specs.declared.pieces.Piece.TheVariants.{Word as WordAt, Quote as QuoteAt, Comment as CommentAt, End as EndAt}
use Rattle.dns_lexer.specs.EntryTokens.{EndIs, PartSeen, TokenIs, TokenSeen, seen_from}
use Rattle.dns_lexer.specs.PassedLine.{HasNoEnd}
use Rattle.dns_lexer.specs.Pieces.{AreOctets, AreItemsOf, end_at, later}
use Rattle.dns_lexer.specs.Reader.{may_end, step}
use Rattle.dns_lexer.specs.Run.{before, blank_after, closed_piece, fault, finished, first_blank, open_piece, run, start_after, wrong_at, wrong_at_end}
use Rattle.dns_lexer.proofs.Blocks.{back_octets, both_octets, entries_stay, first_fault}
use Rattle.dns_lexer.proofs.OctetsOnce.{given_run, run_given}
use Rattle.dns_lexer.proofs.PieceSteps.{run_step, run_stop}
use Rattle.zone_reader.specs.FirstEntry.{StopsFirst, piece_of_stop, stop_offset}
use Rattle.zone_reader.proofs.TapeOnce.{first_once}
use Rattle.zone_stream.specs.First.{BeginsEntryWith, FirstEntryEnds, parts_of}
use Rattle.zone_stream.proofs.LastEnds.{ends_all}
use Rattle.zone_stream.proofs.Modes.{Act, Mode, Move, Outside}

-- ---- the pieces by what is seen of them

abbrev Parts : Type 0
Parts = List (Result PartSeen Fault)

abbrev part_of_stop : Result EndOfEntry Fault → Result PartSeen Fault
part_of_stop (Ok end) = Ok (EndIs end)
part_of_stop (Err f) = Err f

-- pieces of one entry, its stop, and others
record Stopped (given : List (Result Piece Fault)) (stop : Result EndOfEntry Fault) : Type 0 where
  found : List Piece
  is_open : HasNoEnd found
  left : List (Result Piece Fault)
  is : given ≡ map Ok found ++ piece_of_stop stop ∷ left

one_before : (p : Piece) (given : List (Result Piece Fault)) (stop : Result EndOfEntry Fault) → HasNoEnd (p ∷ []) → Stopped given stop → Stopped (Ok p ∷ given) stop
one_before (WordAt p) given stop h s = record { found = WordAt p ∷ s.found; is_open = s.is_open; left = s.left; is = ap (λ l. Ok (WordAt p) ∷ l) s.is }
one_before (QuoteAt p) given stop h s = record { found = QuoteAt p ∷ s.found; is_open = s.is_open; left = s.left; is = ap (λ l. Ok (QuoteAt p) ∷ l) s.is }
one_before (CommentAt p) given stop h s = record { found = CommentAt p ∷ s.found; is_open = s.is_open; left = s.left; is = ap (λ l. Ok (CommentAt p) ∷ l) s.is }
one_before (EndAt p) given stop h s = elim h [ ]

module _ (octets : List ℕ) (blank : Bool) (stop : Result EndOfEntry Fault) (rest : Parts) where
  stopped : (given : List (Result Piece Fault)) (began : ℕ) (ended : Option ℕ) (tokens : List TokenSeen) → parts_of blank tokens ++ part_of_stop stop ∷ rest ≡ seen_from octets began ended given → Stopped given stop
  stopped [] began ended [] e = cc
  stopped [] began ended (t ∷ tokens) e = cc
  stopped (Ok (CommentAt p) ∷ given) began ended tokens e = one_before (CommentAt p) given stop tt (stopped given began ended tokens e)
  stopped (Ok (WordAt p) ∷ given) began ended [] e = no_token stop e
    where
      no_token : {t : TokenSeen} {l : Parts} {b : Bool} {A : Type 0} (s : Result EndOfEntry Fault) → part_of_stop s ∷ rest ≡ Ok (TokenIs t b) ∷ l → A
      no_token (Ok end) e = cc
      no_token (Err f) e = cc
  stopped (Ok (WordAt p) ∷ given) began ended (t ∷ tokens) e =
      let tail : parts_of blank tokens ++ part_of_stop stop ∷ rest ≡ seen_from octets began (Some p.end) given = cc in
      one_before (WordAt p) given stop tt (stopped given began (Some p.end) tokens tail)
  stopped (Ok (QuoteAt p) ∷ given) began ended [] e = no_token stop e
    where
      no_token : {t : TokenSeen} {l : Parts} {b : Bool} {A : Type 0} (s : Result EndOfEntry Fault) → part_of_stop s ∷ rest ≡ Ok (TokenIs t b) ∷ l → A
      no_token (Ok end) e = cc
      no_token (Err f) e = cc
  stopped (Ok (QuoteAt p) ∷ given) began ended (t ∷ tokens) e =
      let tail : parts_of blank tokens ++ part_of_stop stop ∷ rest ≡ seen_from octets began (Some p.end) given = cc in
      one_before (QuoteAt p) given stop tt (stopped given began (Some p.end) tokens tail)
  stopped (Ok (EndAt p) ∷ given) began ended [] e = at_end stop e
    where
      at_end : {l : Parts} (s : Result EndOfEntry Fault) → part_of_stop s ∷ rest ≡ Ok (EndIs p) ∷ l → Stopped (Ok (EndAt p) ∷ given) s
      at_end (Ok end) e = let same : p ≡ end = cc in record { found = []; is_open = tt; left = given; is = ap (λ x. Ok (EndAt x) ∷ given) same }
      at_end (Err f) e = cc
  stopped (Ok (EndAt p) ∷ given) began ended (t ∷ tokens) e = cc
  stopped (Err f ∷ given) began ended [] e = at_fault stop e
    where
      at_fault : {l : Parts} (s : Result EndOfEntry Fault) → part_of_stop s ∷ rest ≡ Err f ∷ l → Stopped (Err f ∷ given) s
      at_fault (Ok end) e = cc
      at_fault (Err g) e = let same : f ≡ g = cc in record { found = []; is_open = tt; left = given; is = ap (λ x. Err x ∷ given) same }
  stopped (Err f ∷ given) began ended (t ∷ tokens) e = cc

-- the first entry of a text, by its pieces
pub stops_first : (text : List ℕ) (blank : Bool) (tokens : List TokenSeen) (stop : Result EndOfEntry Fault) → BeginsEntryWith text blank tokens stop → (left : List (Result Piece Fault)) × StopsFirst text stop left
stops_first text blank tokens (Ok end) b =
    let s = stopped text blank (Ok end) b.0 b.1.0 0 None tokens b.1.2 in (s.left, record { found = s.found; is_open = s.is_open; given = subst (AreItemsOf text) s.is b.1.1 })
stops_first text blank tokens (Err f) b =
    let s = stopped text blank (Err f) [] b.0 0 None tokens b.2 in (s.left, record { found = s.found; is_open = s.is_open; given = subst (AreItemsOf text) s.is b.1 })

-- ---- a syntax error before the end of octets is theirs, whatever follows

last_fault : (found : List Piece) (f : Fault) (left : List (Result Piece Fault)) → first_fault (map Ok found ++ Err f ∷ left) ≡ Some f
last_fault [] f left = refl
last_fault (p ∷ found) f left = last_fault found f left

fault_kept : (o : Option Piece) (given : List (Result Piece Fault)) → first_fault (before o given) ≡ first_fault given
fault_kept None given = refl
fault_kept (Some p) given = refl

-- the error is not before the offset from which octets are read
at_end : (m : Mode) (d s at : ℕ) (b : Bool) (f : Fault) → first_fault (run m d s at b []) ≡ Some f → at ≤ f.at
at_end m d s at b f h = go (may_end m d) h
  where
    go : (t : Bool) → first_fault (cond t (before (open_piece m s at) (Ok (end_at at b) ∷ [])) (fault at (wrong_at_end m s))) ≡ Some f → at ≤ f.at
    go true k = let none : None ≡ Some f = sym (fault_kept (open_piece m s at) (Ok (end_at at b) ∷ [])) ∙ k in cc
    go false k = let same : record { at = at; wrong = wrong_at_end m s } ≡ f = cc in omega (arith, ap (λ (x : Fault). x.at) same)

not_before : (bs : List ℕ) (m : Mode) (d s at : ℕ) (b : Bool) (f : Fault) → first_fault (run m d s at b bs) ≡ Some f → at ≤ f.at
not_before [] m d s at b f h = at_end m d s at b f h
not_before (c ∷ bs) m d s at b f h = go (step m d c) refl (not_before bs)
  where
    go : (o : Option Move) → step m d c ≡ o → ((m : Mode) (d s at : ℕ) (b : Bool) (f : Fault) → first_fault (run m d s at b bs) ≡ Some f → at ≤ f.at) → at ≤ f.at
    go None e ih = let k : Some (record { at = at; wrong = wrong_at m s }) ≡ Some f = ap first_fault (sym (run_stop m d s at b c bs e)) ∙ h in let same : record { at = at; wrong = wrong_at m s } ≡ f = cc in omega (arith, ap (λ (x : Fault). x.at) same)
    go (Some v) e ih =
        let o : Option Piece = closed_piece m v.mode v.act s at in
        let q : Option Piece = finished v.act s (at + 1) b in
        let t : ℕ = start_after m v.mode v.act s at in
        let left : List (Result Piece Fault) = run v.mode v.depth t (at + 1) (blank_after v.act b bs) bs in
        let here : first_fault left ≡ Some f = sym (fault_kept q left) ∙ sym (fault_kept o (before q left)) ∙ ap first_fault (sym (run_step m d s at b c bs v e)) ∙ h in
        omega (arith, ih v.mode v.depth t (at + 1) (blank_after v.act b bs) f here)

blank_more : (a : Act) (b : Bool) (x : ℕ) (w y : List ℕ) → blank_after a b (x ∷ (w ++ y)) ≡ blank_after a b (x ∷ w)
blank_more a b x w y = grind arith

abbrev Comes : List ℕ → List ℕ → Type 0
Comes bs y = (m : Mode) (d s at : ℕ) (b : Bool) (f : Fault) → first_fault (run m d s at b (bs ++ y)) ≡ Some f → f.at < at + length bs → run m d s at b (bs ++ y) ≡ run m d s at b bs

comes_on : (bs y : List ℕ) (m : Mode) (d s at : ℕ) (b : Bool) (c : ℕ) (f : Fault) (v : Move) → step m d c ≡ Some v → Comes bs y → first_fault (run m d s at b (c ∷ (bs ++ y))) ≡ Some f
    → f.at < at + suc (length bs) → run m d s at b (c ∷ (bs ++ y)) ≡ run m d s at b (c ∷ bs)
comes_on bs y m d s at b c f v e ih h l = on bs refl
  where
    o : Option Piece
    o = closed_piece m v.mode v.act s at

    q : Option Piece
    q = finished v.act s (at + 1) b

    t : ℕ
    t = start_after m v.mode v.act s at

    tail : List ℕ → List (Result Piece Fault)
    tail w = run v.mode v.depth t (at + 1) (blank_after v.act b w) w

    here : first_fault (tail (bs ++ y)) ≡ Some f
    here = sym (fault_kept q (tail (bs ++ y))) ∙ sym (fault_kept o (before q (tail (bs ++ y)))) ∙ ap first_fault (sym (run_step m d s at b c (bs ++ y) v e)) ∙ h

    on : (w : List ℕ) → w ≡ bs → run m d s at b (c ∷ (bs ++ y)) ≡ run m d s at b (c ∷ bs)
    on [] k = absurd (omega (arith, l, ap length k, not_before (bs ++ y) v.mode v.depth t (at + 1) (blank_after v.act b (bs ++ y)) f here))
    on (x ∷ w) k =
        let same : blank_after v.act b (bs ++ y) ≡ blank_after v.act b bs = ap (λ l. blank_after v.act b (l ++ y)) (sym k) ∙ blank_more v.act b x w y ∙ ap (blank_after v.act b) k in
        let now : first_fault (run v.mode v.depth t (at + 1) (blank_after v.act b bs) (bs ++ y)) ≡ Some f = ap (λ z. first_fault (run v.mode v.depth t (at + 1) z (bs ++ y))) (sym same) ∙ here in
        run_step m d s at b c (bs ++ y) v e
        ∙ ap (λ z. before o (before q (run v.mode v.depth t (at + 1) z (bs ++ y)))) same
        ∙ ap (λ g. before o (before q g)) (ih v.mode v.depth t (at + 1) (blank_after v.act b bs) f now (omega (arith, l)))
        ∙ sym (run_step m d s at b c bs v e)

comes : (bs y : List ℕ) → Comes bs y
comes [] y m d s at b f h l = absurd (omega (arith, l, not_before y m d s at b f h))
comes (c ∷ bs) y m d s at b f h l = go (step m d c) refl (comes bs y)
  where
    go : (o : Option Move) → step m d c ≡ o → Comes bs y → run m d s at b (c ∷ (bs ++ y)) ≡ run m d s at b (c ∷ bs)
    go None e ih = run_stop m d s at b c (bs ++ y) e ∙ sym (run_stop m d s at b c bs e)
    go (Some v) e ih = comes_on bs y m d s at b c f v e ih h l

first_same : (octets more : List ℕ) → 0 < length octets → first_blank (octets ++ more) ≡ first_blank octets
first_same [] more h = absurd (omega (arith, h))
first_same (c ∷ octets) more h = refl

-- ---- after the limit

module _ (octets more : List ℕ) (ok : AreOctets octets) (m : AreOctets more) where
  whole : AreOctets (octets ++ more)
  whole = both_octets octets more ok m

  fault_comes : (f : Fault) (left : List (Result Piece Fault)) (x : StopsFirst (octets ++ more) (Err f) left) → f.at < length octets → StopsFirst octets (Err f) left
  fault_comes f left x within =
      let found : List (Result Piece Fault) = map Ok x.found ++ Err f ∷ left in
      let is : found ≡ run Outside 0 0 0 (first_blank (octets ++ more)) (octets ++ more) = given_run (octets ++ more) found whole x.given in
      let same : first_blank (octets ++ more) ≡ first_blank octets = first_same octets more (omega (arith, within)) in
      let now : found ≡ run Outside 0 0 0 (first_blank octets) (octets ++ more) = is ∙ ap (λ t. run Outside 0 0 0 t (octets ++ more)) same in
      let here : first_fault (run Outside 0 0 0 (first_blank octets) (octets ++ more)) ≡ Some f = ap first_fault (sym now) ∙ last_fault x.found f left in
      let all : found ≡ run Outside 0 0 0 (first_blank octets) octets = now ∙ comes octets more Outside 0 0 0 (first_blank octets) f here (omega (arith, within)) in
      record { found = x.found; is_open = x.is_open; given = subst (AreItemsOf octets) (sym all) (run_given octets ok) }

  entry_comes : (end : EndOfEntry) (left : List (Result Piece Fault)) (x : StopsFirst (octets ++ more) (Ok end) left) → end.at < length octets → (behind : List (Result Piece Fault)) × StopsFirst octets (Ok end) behind
  entry_comes end [] x within = absurd (omega (arith, within, ends_all (octets ++ more) x.found end x.given, length-append octets more))
  entry_comes end (y ∷ left) x within =
      let rest : List ℕ = drop end.at octets in
      let own : AreOctets rest = back_octets (take end.at octets) rest (subst AreOctets (sym (take-append-drop end.at octets)) ok) in
      let alone : List (Result Piece Fault) = run Outside 0 0 0 (first_blank rest) rest in
      let stay : AreItemsOf (take end.at (octets ++ more) ++ rest) (map Ok x.found ++ Ok (EndAt end) ∷ later end.at alone) =
      entries_stay (octets ++ more) rest x.found end.at end.begins_blank (y ∷ left) alone whole own x.given (omega arith) (run_given rest own) in
      let same : take end.at (octets ++ more) ++ rest ≡ octets = ap (λ l. l ++ rest) (take-append-le end.at octets more (omega (arith, within))) ∙ take-append-drop end.at octets in
      (later end.at alone, record { found = x.found; is_open = x.is_open; given = subst (λ l. AreItemsOf l (map Ok x.found ++ Ok (EndAt end) ∷ later end.at alone)) same stay })

  -- octets that don't begin with a finished entry yet: the end of their first entry, and its syntax error, come after all of them
  pub not_within : FirstEntryEnds octets false None → (stop : Result EndOfEntry Fault) (left : List (Result Piece Fault)) → StopsFirst (octets ++ more) stop left → length octets ≤ stop_offset stop
  not_within s stop left x = elim (cases_lt (stop_offset stop) (length octets)) [
    | inr most ↦ most
    | inl less ↦ absurd (sooner stop left x less s.1)
  ]
    where
      differs : (s t : Result EndOfEntry Fault) (l k : List (Result Piece Fault)) → StopsFirst octets s l → StopsFirst octets t k → stop_offset s < length octets → length octets ≤ stop_offset t → ⊥
      differs s t l k x y less most = omega (arith, less, most, ap stop_offset (first_once octets s t l k x y).1)

      against : (s : Result EndOfEntry Fault) (l : List (Result Piece Fault)) → StopsFirst octets s l → stop_offset s < length octets
          → ((end : EndOfEntry) × StopsFirst octets (Ok end) []) ⊎ ((f : Fault) × StopsFirst octets (Err f) [] × (length octets ≤ f.at)) → ⊥
      against s l x less (inl e) = differs s (Ok e.0) l [] x e.1 less (omega (arith, ends_all octets e.1.found e.0 e.1.given))
      against s l x less (inr f) = differs s (Err f.0) l [] x f.1 less f.2

      sooner : (stop : Result EndOfEntry Fault) (left : List (Result Piece Fault)) → StopsFirst (octets ++ more) stop left → stop_offset stop < length octets
          → ((end : EndOfEntry) × StopsFirst octets (Ok end) []) ⊎ ((f : Fault) × StopsFirst octets (Err f) [] × (length octets ≤ f.at)) → ⊥
      sooner (Ok end) left x less none = let own = entry_comes end left x less in against (Ok end) own.0 own.1 less none
      sooner (Err f) left x less none = against (Err f) left (fault_comes f left x less) less none

-- one stop, whatever the tokens of the first entry are
pub one_stop : (text : List ℕ) (a b : Bool) (s t : List TokenSeen) (x y : Result EndOfEntry Fault) → BeginsEntryWith text a s x → BeginsEntryWith text b t y → x ≡ y
one_stop text a b s t x y h k =
    let l = stops_first text a s x h in
    let r = stops_first text b t y k in
    (first_once text x y l.0 r.0 l.1 r.1).1
