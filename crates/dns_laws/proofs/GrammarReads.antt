-- The result of a converter for symbols is that of the grammar.
use Rattle.std.proofs.Common.{ℕ, ◌≡◌, ◌<◌, ◌≤◌, Bool, true, false, List, [], ◌∷◌, ◌++◌, length, map}
use Rattle.std.proofs.Common.{refl, sym, ap, subst, ◌∙◌, arith, append_assoc, append-nil, length-append, inl, inr, Option, Some, None, Result, Ok, Err}
use Rattle.std.specs.Prelude.{IsErr, IsOk}
use Rattle.std.proofs.lemmas.Bool.{cases_Bool, cases_lt}
use Rattle.dns_symbol.specs.declared.symbol.Symbol.{Symbol}
use Rattle.dns_symbol.specs.declared.error.BadSymbol.{BadSymbol}
use Rattle.dns_symbol.specs.declared.error.SymbolCharsError.{SymbolCharsError}
use Rattle.dns_symbol.specs.Cause.{Cause, custom_text}
use Rattle.dns_symbol.specs.Symbol.{char_of, chars_error_text}
use Rattle.dns_codec.specs.Bits.{whole}
use Rattle.dns_codec.specs.Base.{Base, value, IsEncoding}
use Rattle.dns_codec.specs.Converting.{char_in, convert_by, convert_char, trailing_step}
use Rattle.dns_codec.specs.Grammar.{Decodes}
use Rattle.dns_codec.specs.Group.{Group, CharacterStep, fresh, character_step, step_from, may_end_in}
use Rattle.dns_codec.specs.declared.error.DecodeError.{DecodeError}
use Rattle.dns_codec.specs.declared.error.DecodeError.TheVariants.{IllegalChar, TrailingInput, ShortInput, ShortBuf}
use Rattle.dns_codec.specs.declared.base64.Padding.{Padding}
use Rattle.dns_codec.specs.declared.base64.Padding.TheVariants.{Absent, One, Complete}
use Rattle.dns_codec.proofs.Causes.{cases_error}
use Rattle.dns_codec.proofs.Ends.{ended}
use Rattle.dns_codec.proofs.Steps.{IsRead, read_none, stepped}
use Rattle.dns_zone.specs.EntryCodecs.{then_made, then_more, converted_symbols, made_of, codec_of}
use Rattle.dns_laws.specs.Encodings.{BeginsEncoding, IsRefusedAfter, NoEncoding, ReadsEncoding}
use Rattle.dns_laws.proofs.GrammarStands.{begins, blocked, closed_padded, groups, open_unpadded, unended}
use Rattle.dns_laws.proofs.Spelled.{cases_char, char_there, no_char}

-- ---- symbols and their characters

chars_more : (front : List Symbol) (text : List ℕ) (x : Symbol) (c : ℕ) → map char_of front ≡ map Ok text → char_of x ≡ Ok c → map char_of (front ++ x ∷ []) ≡ map Ok (text ++ c ∷ [])
chars_more [] [] x c are is = λ i. is i ∷ []
chars_more [] (t ∷ ts) x c are is = cc
chars_more (f ∷ fs) [] x c are is = cc
chars_more (f ∷ fs) (t ∷ ts) x c are is =
    let first : char_of f ≡ Ok t = cc in
    let others : map char_of fs ≡ map Ok ts = cc in
    λ i. first i ∷ chars_more fs ts x c others is i

-- if symbols continue, so do their characters
chars_on : (front : List Symbol) (text : List ℕ) (x : Symbol) (more : List Symbol) (all : List ℕ) → map char_of front ≡ map Ok text → map char_of (front ++ x ∷ more) ≡ map Ok all
    → (c : ℕ) × (later : List ℕ) × (char_of x ≡ Ok c) × (all ≡ text ++ c ∷ later)
chars_on [] [] x more [] are is = cc
chars_on [] [] x more (a ∷ later) are is = let first : char_of x ≡ Ok a = cc in (a, later, first, refl)
chars_on [] (t ∷ ts) x more all are is = cc
chars_on (f ∷ fs) [] x more all are is = cc
chars_on (f ∷ fs) (t ∷ ts) x more [] are is = cc
chars_on (f ∷ fs) (t ∷ ts) x more (a ∷ later) are is =
    let others : map char_of fs ≡ map Ok ts = cc in
    let tails : map char_of (fs ++ x ∷ more) ≡ map Ok later = cc in
    let same : a ≡ t = cc in
    let rest = chars_on fs ts x more later others tails in
    (rest.0, rest.1, rest.2, λ i. same i ∷ rest.3 i)

-- a longer prefix is extended by the next symbol
longer_on : (front xs longer others : List Symbol) (x : Symbol) → front ++ x ∷ xs ≡ longer ++ others → length front < length longer → (more : List Symbol) × (longer ≡ front ++ x ∷ more)
longer_on [] xs [] others x e less = absurd (omega (arith, less))
longer_on [] xs (l ∷ ls) others x e less = let first : l ≡ x = cc in (ls, λ i. first i ∷ ls)
longer_on (f ∷ fs) xs [] others x e less = absurd (omega (arith, less))
longer_on (f ∷ fs) xs (l ∷ ls) others x e less =
    let first : l ≡ f = cc in
    let tails : fs ++ x ∷ xs ≡ ls ++ others = cc in
    let rest = longer_on fs xs ls others x tails (omega (arith, less)) in
    (rest.0, λ i. first i ∷ rest.1 i)

-- ---- errors of a converter

illegal_by : (b : Base) (g : Group) (s : CharacterStep) (e : DecodeError) → (g.padding ≡ Complete → ⊥) → (convert_by b g s (Some e)).answer ≡ Err b.illegal
illegal_by b g s (IllegalChar c) open_one = refl
illegal_by b g s ShortInput open_one = refl
illegal_by b g s ShortBuf open_one = refl
illegal_by b g s TrailingInput open_one = by g.padding open_one
  where
    by : (p : Padding) → (p ≡ Complete → ⊥) → (trailing_step b g p).answer ≡ Err b.illegal
    by Absent open_one = refl
    by One open_one = refl
    by Complete open_one = absurd (open_one refl)

is_ok_char : (x : Symbol) (c : ℕ) → char_of x ≡ Ok c → IsOk (char_of x)
is_ok_char x c is = rw is refl

is_err_char : (x : Symbol) (e : BadSymbol) → char_of x ≡ Err e → IsErr (char_of x)
is_err_char x e is = rw is refl

not_both : (x : Symbol) (c : ℕ) (e : BadSymbol) → char_of x ≡ Ok c → char_of x ≡ Err e → ⊥
not_both x c e is bad = let both : Ok c ≡ Err e = sym is ∙ bad in cc both

module _ (b : Base) (known : IsEncoding b) where
  -- a converter that holds these digits
  abbrev held : List ℕ → Padding → Group × Bool
  held ps p = (record { digits = ps; padding = p }, false)

  abbrev stepped_by : List ℕ → Padding → Option ℕ → Result (List ℕ) (List ℕ) × (Group × Bool)
  stepped_by ps p o =
      let g : Group = record { digits = ps; padding = p } in
      ((convert_char b g o).answer, ((convert_char b g o).group, (convert_char b g o).failed))

  step_is : (ps : List ℕ) (p : Padding) (x : Symbol) (o : Option ℕ) → char_in x ≡ o → (codec_of b).step (held ps p) x ≡ stepped_by ps p o
  step_is ps p x o is = ap (stepped_by ps p) is

  -- the result of symbols after those that were consumed
  abbrev Read : List Symbol → List Symbol → Option SymbolCharsError → List ℕ → List ℕ → Padding → Type 0
  Read front xs error os ps p = ReadsEncoding b (front ++ xs) error (os ++ made_of (codec_of b) (held ps p) xs error) (converted_symbols (codec_of b) (held ps p) os xs error)

  -- the same, of what a step made
  abbrev ReadStep : List Symbol → Symbol → List Symbol → Option SymbolCharsError → List ℕ → Result (List ℕ) (List ℕ) × (Group × Bool) → Type 0
  ReadStep front x xs error os s =
      ReadsEncoding b (front ++ x ∷ xs) error (os ++ then_more s.0 (made_of (codec_of b) s.1 xs error)) (then_made s.0 (λ octets. converted_symbols (codec_of b) s.1 (os ++ octets) xs error))

  -- what was consumed, and what follows it
  module _ (front : List Symbol) (text os ps : List ℕ) (p : Padding) (at : IsRead b text os ps p) (chars : map char_of front ≡ map Ok text) (error : Option SymbolCharsError) where
    ends_here : (why : Cause) → IsRefusedAfter b text [] error why → NoEncoding b (front ++ []) error (os ++ []) why
    ends_here why refusal = record {
      front = front;
      rest = [];
      text = text;
      parts = refl;
      chars = chars;
      begins = begins b known text os ps p at;
      longest = λ longer others more e are begun. omega (arith, ap length e, length-append longer others, ap length (append-nil front));
      groups = rw append-nil (groups b known text os ps p at);
      refusal = refusal;
    }

    stops_here : (x : Symbol) (xs : List Symbol) (why : Cause) → ((c : ℕ) → char_of x ≡ Ok c → (rest octets : List ℕ) → Decodes b (text ++ c ∷ rest) octets → ⊥)
        → IsRefusedAfter b text (x ∷ xs) error why → NoEncoding b (front ++ x ∷ xs) error (os ++ []) why
    stops_here x xs why block refusal = record {
      front = front;
      rest = x ∷ xs;
      text = text;
      parts = refl;
      chars = chars;
      begins = begins b known text os ps p at;
      longest = longest;
      groups = rw append-nil (groups b known text os ps p at);
      refusal = refusal;
    }
      where
        longest : (longer others : List Symbol) (more : List ℕ) → front ++ x ∷ xs ≡ longer ++ others → map char_of longer ≡ map Ok more → BeginsEncoding b more → length longer ≤ length front
        longest longer others more e are begun = elim (cases_lt (length front) (length longer)) [
          | inl less ↦
              let on = longer_on front xs longer others x e less in
              let next = chars_on front text x on.0 more chars (subst (λ (l : List Symbol). map char_of l ≡ map Ok more) on.1 are) in
              let same : more ++ begun.0 ≡ text ++ next.0 ∷ (next.1 ++ begun.0) = ap (λ l. l ++ begun.0) next.3 ∙ append_assoc text (next.0 ∷ next.1) begun.0 in
              absurd (block next.0 next.2 (next.1 ++ begun.0) begun.1 (subst (λ (l : List ℕ). Decodes b l begun.1) same begun.2))
          | inr le ↦ le
        ]

    -- at the end
    ends_text : may_end_in b ps p ≡ true → error ≡ None → ReadsEncoding b (front ++ []) None (os ++ whole b.width ps) (Ok (os ++ whole b.width ps))
    ends_text ends none = (refl, refl, (text, ap (map char_of) (append-nil front) ∙ chars, (ended b known text os ps p at).decodes ends))

    -- at a symbol that a step rejects
    refused_step : (x : Symbol) (xs : List Symbol) (answer : Result (List ℕ) (List ℕ)) (after : Group × Bool) (reason : List ℕ) → answer ≡ Err reason
        → ((c : ℕ) → char_of x ≡ Ok c → (rest octets : List ℕ) → Decodes b (text ++ c ∷ rest) octets → ⊥) → IsRefusedAfter b text (x ∷ xs) error (custom_text reason)
        → ReadStep front x xs error os (answer, after)
    refused_step x xs answer after reason is block refusal =
        subst (λ (a : Result (List ℕ) (List ℕ)). ReadStep front x xs error os (a, after)) (sym is) (stops_here x xs (custom_text reason) block refusal)

    -- a character that is rejected, by the padding before it
    refused_char : (x : Symbol) (xs : List Symbol) (c : ℕ) (e : DecodeError) → char_of x ≡ Ok c → (step_from b ps p c (value b c)).error ≡ Some e → ReadStep front x xs error os (stepped_by ps p (Some c))
    refused_char x xs c e is refused = by p refl
      where
        s : CharacterStep
        s = step_from b ps p c (value b c)

        block : (d : ℕ) → char_of x ≡ Ok d → (rest octets : List ℕ) → Decodes b (text ++ d ∷ rest) octets → ⊥
        block d other rest octets decodes =
            let same : d ≡ c = cc (sym other, is) in
            blocked b known text os ps p c e at refused rest octets (subst (λ (n : ℕ). Decodes b (text ++ n ∷ rest) octets) same decodes)

        illegal : (p ≡ Complete → ⊥) → ReadStep front x xs error os (stepped_by ps p (Some c))
        illegal open_one =
            let g : Group = record { digits = ps; padding = p } in
            let answer : (convert_char b g (Some c)).answer ≡ Err b.illegal = rw refused (illegal_by b g (character_step b g c) e open_one) in
            refused_step x xs _ _ b.illegal answer block (inr (λ padded. absurd (open_unpadded b known text os ps p open_one at padded), refl))

        by : (q : Padding) → p ≡ q → ReadStep front x xs error os (stepped_by ps p (Some c))
        by Absent same = illegal (λ done. let bad : Absent ≡ Complete = sym same ∙ done in cc bad)
        by One same = illegal (λ done. let bad : One ≡ Complete = sym same ∙ done in cc bad)
        by Complete same =
            let closed = subst (λ (q : Padding). IsRead b text os ps q) same at in
            let answer : (convert_char b (record { digits = ps; padding = p }) (Some c)).answer ≡ Err b.trailing =
            subst (λ (q : Padding). (convert_char b (record { digits = ps; padding = q }) (Some c)).answer ≡ Err b.trailing) (sym same) refl in
            refused_step x xs _ _ b.trailing answer block (inl (closed_padded b known text os ps closed, is_ok_char x c is, refl))

    -- a symbol without character
    refused_symbol : (x : Symbol) (xs : List Symbol) (e : BadSymbol) → char_of x ≡ Err e → ReadStep front x xs error os (stepped_by ps p None)
    refused_symbol x xs e bad =
        refused_step x xs (Err b.illegal) (held ps p) b.illegal refl (λ c is rest octets d. not_both x c e is bad) (inr (λ padded. is_err_char x e bad, refl))

  at_end : (front : List Symbol) (text os ps : List ℕ) (p : Padding) (error : Option SymbolCharsError) → IsRead b text os ps p → map char_of front ≡ map Ok text → Read front [] error os ps p
  at_end front text os ps p (Some e) at chars = ends_here front text os ps p at chars (Some e) (custom_text (chars_error_text e)) refl
  at_end front text os ps p None at chars = elim (cases_Bool (may_end_in b ps p)) [
    | inl ends ↦ rw ends (ends_text front text os ps p at chars None ends refl)
    | inr more ↦ rw more (ends_here front text os ps p at chars None (custom_text b.incomplete) (unended b known text os ps p at more, refl))
  ]

  pub run : (xs front : List Symbol) (text os ps : List ℕ) (p : Padding) (error : Option SymbolCharsError) → IsRead b text os ps p → map char_of front ≡ map Ok text → Read front xs error os ps p
  run [] front text os ps p error at chars = at_end front text os ps p error at chars
  run (x ∷ xs) front text os ps p error at chars = elim (cases_char (char_of x)) [
    | inr bad ↦ subst (λ (s : Result (List ℕ) (List ℕ) × (Group × Bool)). ReadStep front x xs error os s) (sym (step_is ps p x None (no_char x bad.0 bad.1))) (refused_symbol front text os ps p at chars error x xs bad.0 bad.1)
    | inl good ↦
        let c = good.0 in
        let s : CharacterStep = step_from b ps p c (value b c) in
        let g : Group = record { digits = ps; padding = p } in
        subst (λ (s : Result (List ℕ) (List ℕ) × (Group × Bool)). ReadStep front x xs error os s) (sym (step_is ps p x (Some c) (char_there x c good.1)))
        (elim (cases_error s.error) [
          | inr some ↦ refused_char front text os ps p at chars error x xs c some.0 good.1 some.1
          | inl none ↦
              let next = (stepped b known text os ps p c at).goes_on none in
              let later = run xs (front ++ x ∷ []) (text ++ c ∷ []) (os ++ s.octets) s.group.digits s.group.padding error next (chars_more front text x c chars good.1) in
              rw none (rw (append_assoc front (x ∷ []) xs, append_assoc os s.octets (made_of (codec_of b) (s.group, false) xs error)) at later)
        ])
  ]

  -- of all symbols
  pub reads_all : (symbols : List Symbol) (error : Option SymbolCharsError)
      → ReadsEncoding b symbols error (made_of (codec_of b) (fresh, false) symbols error) (converted_symbols (codec_of b) (fresh, false) [] symbols error)
  reads_all symbols error = run symbols [] [] [] [] Absent error (read_none b known) refl
