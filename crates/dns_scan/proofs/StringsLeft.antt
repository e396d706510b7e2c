-- From character strings that are parsed in order to their tokens.
use Rattle.std.proofs.Common.{ℕ, ◌≡◌, ◌≤◌, List, [], ◌∷◌, ◌++◌, length, map, refl, sym, ap, subst, ◌∙◌, arith, append_assoc, append-nil, ◌⊎◌, inl, inr, ⊎_elim, Option, Result, Ok, Err}
use Rattle.std.specs.Prelude.{◌≢◌, All, IfOk, IsOkAnd, MatchResult}
use Rattle.std.specs.List.{AllZip, concat}
use Rattle.std.proofs.lemmas.List.Elements.{All-nil, All-cons}
use Rattle.dns_octets.specs.Room.{Room, within}
use Rattle.dns_symbol.specs.declared.symbol.Symbol.{Symbol}
use Rattle.dns_symbol.specs.declared.error.BadSymbol.{BadSymbol}
use Rattle.dns_symbol.specs.Symbol.{octet_of}
use Rattle.dns_symbol.specs.Text.{SymbolsOf}
use Rattle.dns_charstr.specs.Reading.{HasOctets}
use Rattle.dns_symbol.specs.Cause.{Cause, short_buf, IsCause}
use Rattle.dns_scan.specs.Join.{LeavesOf}
use Rattle.dns_scan.specs.Reads.{OctetsRead, ReadsFirstToken, ReadsSome, ReadsRest}
use Rattle.dns_scan.specs.Unread.{HasTokens}
use Rattle.dns_scan.specs.Steps.{step_octet, bad_or}
use Rattle.dns_scan.specs.Tokens.{Token}
use Rattle.dns_scan.proofs.OneEntry.{strings_same, string_fault, cut_at}
use Rattle.dns_scan.proofs.StringRuns.{Short}

-- the octets of symbols, from those of each
octets_of : (symbols : List Symbol) (parts : List (List ℕ)) → map step_octet symbols ≡ map Ok parts → map octet_of symbols ≡ map Ok (concat parts)
octets_of [] [] e = refl
octets_of [] (p ∷ ps) e = cc
octets_of (x ∷ xs) [] e = cc
octets_of (x ∷ xs) (p ∷ ps) e =
    let first : step_octet x ≡ Ok p = cc in
    let others : map step_octet xs ≡ map Ok ps = cc in
    by (octet_of x) refl first (octets_of xs ps others)
  where
    by : (q : Result ℕ BadSymbol) → octet_of x ≡ q → bad_or (λ n. n ∷ []) q ≡ Ok p → map octet_of xs ≡ map Ok (concat ps) → map octet_of (x ∷ xs) ≡ map Ok (p ++ concat ps)
    by (Ok n) is f more = let one : n ∷ [] ≡ p = cc in subst (λ l. map octet_of (x ∷ xs) ≡ map Ok (l ++ concat ps)) one (λ i. is i ∷ more i)
    by (Err w) is f more = cc

module _ (room : Room) where
  abbrev pub Reads : List Token → Result (List ℕ) Cause → List Token → Type 0
  Reads = ReadsFirstToken (OctetsRead (within 255 room))

  read_octets : (t : Token) (o : List ℕ) → OctetsRead (within 255 room) t (Ok o) → HasOctets t o × (length o ≤ 255)
  read_octets t o h = (
    record {
      symbols = h.0;
      read = subst (λ e. SymbolsOf t h.0 e) h.3.ends h.2;
      octets_are = octets_of h.0 h.3.parts h.3.gives ∙ ap (map Ok) (sym h.3.joined);
    },
    omega (arith, h.3.fits),
  )

  -- the tokens that were read are character strings
  record Front (tokens : List Token) (values : List (List ℕ)) (rest : List Token) : Type 0 where
    front : List Token
    whole : tokens ≡ front ++ rest
    read : AllZip HasOctets front values
    short : All Short values

  front_of : (tokens : List Token) (values : List (List ℕ)) (rest : List Token) → ReadsSome Reads tokens values rest → Front tokens values rest
  front_of tokens [] rest h = record { front = []; whole = sym h; read = tt; short = All-nil Short }
  front_of [] (v ∷ vs) rest h = absurd (h.1 refl)
  front_of (t ∷ ts) (v ∷ vs) rest h =
      let one = read_octets t v h.2.0 in
      let more = front_of ts vs rest (subst (λ (m : List Token). ReadsSome Reads m vs rest) h.2.1 h.3) in
      record { front = t ∷ more.front; whole = ap (λ l. t ∷ l) more.whole; read = (one.0, more.read); short = All-cons Short v vs one.1 more.short }

  -- the first of what remains was rejected
  first_refused : (middle rest : List Token) (why : Cause) → middle ≢ [] → Reads middle (Err why) rest → (t : Token) × (middle ≡ t ∷ rest) × OctetsRead (within 255 room) t (Err why)
  first_refused [] rest why some h = absurd (some refl)
  first_refused (t ∷ ts) rest why some h = (t, ap (λ l. t ∷ l) (sym h.1), h.0)

  rest_only : (tokens rest : List Token) (values : List (List ℕ)) → ReadsRest Reads tokens (Ok values) rest → AllZip HasOctets tokens values × All Short values
  rest_only tokens rest values h =
      let front = front_of tokens values [] h.0 in
      (subst (λ (l : List Token). AllZip HasOctets l values) (sym (append-nil front.front) ∙ sym front.whole) front.read, front.short)

  -- if all tokens are character strings, only memory can be lacking
  rest_refused : (tokens rest : List Token) (strings : List (List ℕ)) (why : Cause) → AllZip HasOctets tokens strings → All Short strings → ReadsRest Reads tokens (Err why) rest → why ≡ short_buf
  rest_refused tokens rest strings why read short h =
      let front = front_of tokens h.0 h.1 h.2 in
      ⊎_elim
      (λ k.
      let first = first_refused h.1 rest why k.0 k.1 in
      let whole : tokens ≡ front.front ++ first.0 ∷ rest = front.whole ∙ ap (λ l. front.front ++ l) first.1 in
      let cut = cut_at room front.front first.0 rest strings (subst (λ (l : List Token). AllZip HasOctets l strings) whole read) short in
      (string_fault room first.0 cut.1 0 why cut.3 cut.4 (inl first.2)).0)
      (λ k. k.1)
      h.3

  -- the last tokens remain
  rest_leaves : (tokens rest : List Token) (why : Cause) → ReadsRest Reads tokens (Err why) rest → (front : List Token) × (tokens ≡ front ++ rest)
  rest_leaves tokens rest why h =
      let front = front_of tokens h.0 h.1 h.2 in
      ⊎_elim
      (λ k.
      let first = first_refused h.1 rest why k.0 k.1 in
      (front.front ++ first.0 ∷ [], front.whole ∙ ap (λ l. front.front ++ l) first.1 ∙ sym (append_assoc front.front (first.0 ∷ []) rest)))
      (λ k. (front.front, front.whole ∙ ap (λ l. front.front ++ l) (sym k.2)))
      h.3

  -- the same of an answer, whose list is read by `items`
  module _ {W E : Type 0} (cause : E → Cause) (items : W → List (List ℕ)) (tokens rest : List Token) where
    abbrev pub Left : Result W E → Type 0
    Left r = MatchResult r (λ v. ReadsRest Reads tokens (Ok (items v)) rest) (λ e. ReadsRest Reads tokens (Err (cause e)) rest)

    pub left_only : (r : Result W E) → Left r → IfOk r (λ v. AllZip HasOctets tokens (items v) × All Short (items v))
    left_only (Ok v) h = rest_only tokens rest (items v) h
    left_only (Err e) h = tt

    pub left_whole : (r : Result W E) → Left r → (strings : List (List ℕ)) → AllZip HasOctets tokens strings → All Short strings → IsOkAnd r (λ v. items v ≡ strings) ⊎ IsCause cause r short_buf
    left_whole (Ok v) h strings read short = inl (strings_same tokens (items v) strings (rest_only tokens rest (items v) h).0 read)
    left_whole (Err e) h strings read short = inr (rest_refused tokens rest strings (cause e) read short h)

    pub left_leaves : {S : Type 0} (next : S → Option Token → S → Type 0) (new : S) (r : Result W E) → Left r → HasTokens next new rest → LeavesOf next tokens r new
    left_leaves next new (Ok v) h stands = (tokens, rest, sym (append-nil tokens) ∙ ap (λ l. tokens ++ l) (sym h.1), (λ ok. h.1), stands)
    left_leaves next new (Err e) h stands = let front = rest_leaves tokens rest (cause e) h in (front.0, rest, front.1, (λ ok. cc), stands)
