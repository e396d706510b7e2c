-- The texts of encodings that are all remaining tokens of an entry.
use Rattle.std.proofs.Common.{ℕ, ◌≡◌, true, List, [], ◌∷◌, sym, ap, subst, ◌∙◌, Some, None, Result, Ok, Err}
use Rattle.std.specs.Prelude.{IfOk}
use Rattle.std.specs.List.{list_all, concat, AllByRecursion}
use Rattle.std.proofs.lemmas.Bool.{and_parts}
use Rattle.std.proofs.lemmas.List.Folds.{list_all-append}
use Rattle.dns_octets.specs.Room.{Room}
use Rattle.dns_symbol.specs.declared.symbol.Symbol.{Symbol}
use Rattle.dns_symbol.specs.declared.symbol.Symbol.TheVariants.{Char}
use Rattle.dns_codec.specs.Base.{Base, encoded}
use Rattle.dns_codec.specs.Converting.{char_in}
use Rattle.dns_codec.specs.Grammar.{Decodes, IsEncodingOf}
use Rattle.dns_symbol.specs.Cause.{Cause}
use Rattle.dns_scan.specs.Join.{IsJoin, IsSymbols}
use Rattle.dns_scan.specs.Octets.{ReturnsWhere}
use Rattle.dns_scan.specs.Tokens.{Token}
use Rattle.dns_scan.proofs.Joined.{whole_join}
use Rattle.dns_zone.specs.EntryCodecs.{Codec, converted_symbols, AnswersConverted}
use Rattle.dns_laws.proofs.Converted.{is_plain, plain_read, plain_symbols, encoded_plain}
use Rattle.dns_laws.proofs.Spelled.{gives_value, gives_only}

-- each part of a plain text is symbols
pub plain_parts : (tokens : List Token) → list_all is_plain (concat tokens) ≡ true → AllByRecursion IsSymbols tokens
plain_parts [] h = tt
plain_parts (t ∷ ts) h =
    let p = and_parts (list_all is_plain t) (list_all is_plain (concat ts)) (sym (list_all-append is_plain t (concat ts)) ∙ h) in
    ((plain_symbols t, plain_read t p.0), plain_parts ts p.1)

if_ok : {O E A : Type 0} (P : O → Type 0) (r : Result O E) → IfOk r (λ _. A) → (A → IfOk r P) → IfOk r P
if_ok P (Ok x) a go = go a
if_ok P (Err e) a go = tt

-- an entry that is answered as its join
module _ (codec : Codec) (same_step : (held : codec.Held) (x : Symbol) (c : ℕ) → char_in x ≡ Some c → codec.step held x ≡ codec.step held (Char c))
    (needs_char : (held : codec.Held) (x : Symbol) (o : List ℕ) → char_in x ≡ None → (codec.step held x).0 ≡ Ok o → ⊥)
    (b : Base) (texts : (text octets : List ℕ) → Decodes b text octets → converted_symbols codec codec.start [] (plain_symbols text) None ≡ Ok octets)
    (only : (text octets : List ℕ) → converted_symbols codec codec.start [] (plain_symbols text) None ≡ Ok octets → Decodes b text octets)
    {O E : Type 0} (cause : E → Cause) (value : O → List ℕ) (room : Room) (r : Result O E) (tokens : List Token)
    (answer : (text : List ℕ) → IsJoin tokens text → AnswersConverted codec cause value room text r) where
  pub entry_whole : (octets : List ℕ) → AllByRecursion IsSymbols tokens → IsEncodingOf b (concat tokens) octets → ReturnsWhere cause value room octets r
  entry_whole octets all is =
      gives_value codec same_step needs_char b texts only cause value room (concat tokens) octets r is (answer (concat tokens) (whole_join tokens all))

  pub entry_back : (octets : List ℕ) → list_all is_plain b.alphabet ≡ true → IsEncodingOf b (encoded b octets) octets → concat tokens ≡ encoded b octets → ReturnsWhere cause value room octets r
  entry_back octets plain encoding is =
      entry_whole octets (plain_parts tokens (ap (list_all is_plain) is ∙ encoded_plain b octets plain)) (subst (λ (t : List ℕ). IsEncodingOf b t octets) (sym is) encoding)

  pub entry_only : IfOk r (λ _. AllByRecursion IsSymbols tokens) → IfOk r (λ x. IsEncodingOf b (concat tokens) (value x))
  entry_only symbols =
      if_ok (λ x. IsEncodingOf b (concat tokens) (value x)) r symbols
      (λ all. gives_only codec same_step needs_char b texts only cause value room (concat tokens) r (answer (concat tokens) (whole_join tokens all)))
