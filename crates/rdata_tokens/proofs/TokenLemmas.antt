-- Digits of one token.
use Rattle.std.proofs.Common.{true, false, ◌≡◌, ◌≢◌, ℕ, ◌+◌, ◌-◌, ◌<◌, ◌≤◌, List, [], ◌∷◌, ◌++◌, length, take, refl, sym, ap, subst, ◌∙◌, arith, inl, inr, append-nil, add-one, length-take-le}
use Rattle.std.specs.Prelude.{Result, Ok, Err, OnOk, IfErr, MatchResult}
use Rattle.dns_octets.specs.Room.{Room}
use Rattle.dns_octets.specs.Appending.{ExceedsRoom}
use Rattle.dns_codec.specs.Base.{base32hex}
use Rattle.rdata_tokens.specs.Spelled.{SpellsDigits, base_of, unfinished}
use Rattle.rdata_tokens.specs.Reading.{DigitsState, HasRead, FollowsPadding, PaddedBefore, RefusesPiece}
use Rattle.rdata_tokens.specs.Hashes.{SpellsHash}
use Rattle.rdata_tokens.specs.Tokens.{DigitsContinue, RefusesToken}
use Rattle.rdata_tokens.specs.declared.kind.DigitsKind.{DigitsKind}
use Rattle.rdata_tokens.specs.declared.kind.DigitsKind.TheVariants.{Hex, Base64}
use Rattle.rdata_values.specs.declared.error.ErrorKind.{ErrorKind}
use Rattle.rdata_values.specs.declared.error.ErrorKind.TheVariants.{TrailingBase64, ShortBuf}
use Rattle.rdata_tokens.proofs.Spelling.{spells_once}
use Rattle.rdata_tokens.proofs.Pieces.{gains_next, never_illegal, reads_whole, nothing_spelled, nothing_open}

never_unfinished : (k : DigitsKind) → unfinished k ≢ ShortBuf
never_unfinished Hex = λ is. cc is
never_unfinished Base64 = λ is. cc is

module _ (room : Room) (s : DigitsState) (text old : List ℕ) (e : ErrorKind) (h : HasRead s [] []) (r : RefusesPiece room s text old e) where
  ends : e ≢ ShortBuf → DigitsContinue s.kind text → ⊥
  ends other on =
      let next = gains_next s [] text on.0 on.1 [] on.2 h r.some in
      r.none other next.0 next.1

  fresh_begun : s.begun ≡ []
  fresh_begun = (reads_whole s [] [] [] (nothing_spelled s.kind) h).0

  fresh_goes : s.ended ≡ false
  fresh_goes = h.ended ∙ nothing_open s.kind

  padded_here : FollowsPadding s text → PaddedBefore (base_of s.kind) text
  padded_here (inl f) = let bad : true ≡ false = sym f.0 ∙ fresh_goes in cc bad
  padded_here (inr f) = subst (λ xs. PaddedBefore (base_of s.kind) (xs ++ text)) fresh_begun f.1

  unpadded_here : (FollowsPadding s text → ⊥) → PaddedBefore (base_of s.kind) text → ⊥
  unpadded_here never p = never (inr (fresh_goes, subst (λ xs. PaddedBefore (base_of s.kind) (xs ++ text)) (sym fresh_begun) p))

  refused_here : RefusesToken s.kind room text old e
  refused_here = record {
    why = elim r.why [
      | inl short ↦ inl short
      | inr (inl bad) ↦ inr (inr (inl (bad.0, unpadded_here bad.1), ends (λ short. never_illegal s.kind (sym bad.0 ∙ short))))
      | inr (inr f) ↦ inr (inr (inr (f.0, padded_here f.1), ends (λ short. let bad : TrailingBase64 ≡ ShortBuf = sym f.0 ∙ short in cc bad)))
    ];
    exceeds = λ short. (
        let x = r.exceeds short in
        let front : List ℕ = x.1.1 in
        let spelled : SpellsDigits (base_of s.kind) (s.begun ++ front) x.0 = x.1.4 in
        (x.0, (front, x.1.2, x.1.3, subst (λ (b : List ℕ). SpellsDigits (base_of s.kind) (b ++ front) x.0) fresh_begun spelled, x.1.5), x.2)
        );
    none = λ other octets spelled. ends other ([], octets, subst (λ t. SpellsDigits (base_of s.kind) t octets) (sym (append-nil text)) spelled);
  }

  pub token_refused : (k : DigitsKind) → s.kind ≡ k → RefusesToken k room text old e
  token_refused k same = subst (λ k. RefusesToken k room text old e) same refused_here

pub token_unfinished : (k : DigitsKind) (room : Room) (text old : List ℕ) (e : ErrorKind) → e ≡ unfinished k → DigitsContinue k text → ((v : List ℕ) → SpellsDigits (base_of k) text v → ⊥) → RefusesToken k room text old e
token_unfinished k room text old e is on never = record {
  why = inr (inl (is, on));
  exceeds = λ short. absurd (never_unfinished k (sym is ∙ short));
  none = λ other. never;
}

pub match_ok : {T E : Type 0} (r : Result T E) (P : T → Type 0) (Q : E → Type 0) (R : Type 0) → MatchResult r P Q → ((x : T) → P x → R) → OnOk r R
match_ok (Ok x) P Q R m f = f x m
match_ok (Err e) P Q R m f = tt

pub match_err : {T E : Type 0} (r : Result T E) (P A : T → Type 0) (Q B : E → Type 0) (R : E → Type 0) → MatchResult r P Q → MatchResult r A B → ((e : E) → Q e → B e → R e) → IfErr r R
match_err (Ok x) P A Q B R m n f = tt
match_err (Err e) P A Q B R m n f = f e m n

-- ---- hashes

pub hash_absent : (text : List ℕ) → ((v : List ℕ) → SpellsDigits base32hex text v → 255 < length v) → (octets : List ℕ) → SpellsHash text octets → ⊥
hash_absent text long octets h =
    let over = long h.hash h.spelled in
    let short = h.short in
    omega (arith, over, short)

pub hash_empty : (text new : List ℕ) (n : ℕ) → SpellsDigits base32hex text (take n new) → n ≤ 0 → (octets : List ℕ) → SpellsHash text octets → ⊥
hash_empty text new n spelled none octets h =
    let zero : n ≡ 0 = omega (arith, none) in
    let same : h.hash ≡ take n new = spells_once base32hex (inr (inl refl)) text h.hash (take n new) h.spelled spelled in
    let len : length h.hash ≡ 0 = ap length (same ∙ ap (λ n. take n new) zero) in
    let some = h.some in
    omega (arith, len, some)

pub wire_of : (n : ℕ) (wire hash : List ℕ) → wire ≡ n ∷ hash → take (n + 1) wire ≡ n ∷ take n hash
wire_of n wire hash is = rw (is, add-one) refl

pub hash_wire : (text hash : List ℕ) (n : ℕ) → SpellsDigits base32hex text (take n hash) → 0 < n → n ≤ length hash → n < 256 → SpellsHash text (n ∷ take n hash)
hash_wire text hash n spelled some within short =
    let len : length (take n hash) ≡ n = length-take-le n hash within in
    record { hash = take n hash; spelled = spelled; some = rw len some; short = rw len short; wire_is = rw len refl }

pub hash_exceeds : (room : Room) (text hash wire old : List ℕ) (n : ℕ) → SpellsDigits base32hex text (take n hash) → 0 < n → n ≤ length hash → n < 256 → wire ≡ n ∷ hash
    → (length (take (n + 1) wire) ≤ room.fits - length old → ⊥) → ExceedsRoom room (SpellsHash text) old
hash_exceeds room text hash wire old n spelled some within short is full =
    let slice : length (take (n + 1) wire) ≡ length (n ∷ take n hash) = ap length (wire_of n wire hash is) in
    (n ∷ take n hash, hash_wire text hash n spelled some within short, omega (arith, full, slice))
