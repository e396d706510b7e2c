-- Edits that are pushed.
use Rattle.std.proofs.Common.{ℕ, ◌≡◌, List, [], ◌∷◌, ◌++◌, refl, sym, ap, ◌∙◌, append-nil}
use Rattle.std.specs.Prelude.{map}
use Rattle.std.proofs.lemmas.List.{append_assoc, map-append}
use Rattle.dns_lexer.specs.declared.pieces.Span.{Span}
use Rattle.zone_edit.specs.declared.edit.Edit.{Edit}
use Rattle.zone_edit.specs.Tokens.{Continues, PushesEdit, first_only, no_text, span_between, spans_of, texts_of}

module _ {B : Type 0} (s : Span) (text : List ℕ) (old new : List (Edit B)) (p : PushesEdit s text old new) where
  pub span_pushed : spans_of new ≡ spans_of old ++ s ∷ []
  span_pushed = ap spans_of p.1 ∙ map-append (λ e. span_between e.start e.end) old (p.0 ∷ []) ∙ ap (λ t. spans_of old ++ t ∷ []) p.2

  pub text_pushed : texts_of new ≡ texts_of old ++ text ∷ []
  text_pushed = ap texts_of p.1 ∙ map-append (λ e. e.text.items) old (p.0 ∷ []) ∙ ap (λ t. texts_of old ++ t ∷ []) p.3

  pub spans_next : (more rest all : List Span) → rest ≡ s ∷ more → spans_of old ++ rest ≡ all → spans_of new ++ more ≡ all
  spans_next more rest all next is = ap (λ l. l ++ more) span_pushed ∙ append_assoc (spans_of old) (s ∷ []) more ∙ ap (λ l. spans_of old ++ l) (sym next) ∙ is

  pub texts_next : (more rest all : List (List ℕ)) → rest ≡ text ∷ more → texts_of old ++ rest ≡ all → texts_of new ++ more ≡ all
  texts_next more rest all next is = ap (λ l. l ++ more) text_pushed ∙ append_assoc (texts_of old) (text ∷ []) more ∙ ap (λ l. texts_of old ++ l) (sym next) ∙ is

  pub continues_next : (first : List (Edit B)) → Continues first old → Continues first new
  continues_next first c = (c.0 ++ p.0 ∷ [], p.1 ∙ ap (λ l. l ++ p.0 ∷ []) c.1 ∙ append_assoc first c.0 (p.0 ∷ []))

-- the old edits, followed by others
pub continues_same : {B : Type 0} (old : List (Edit B)) → Continues old old
continues_same old = ([], sym (append-nil old))

pub continues_both : {B : Type 0} (old middle new : List (Edit B)) → Continues old middle → Continues middle new → Continues old new
continues_both old middle new p q = (p.0 ++ q.0, q.1 ∙ ap (λ l. l ++ q.0) p.1 ∙ append_assoc old p.0 q.0)

-- a text for the first span, and deletions of the others
module _ {B : Type 0} (s : Span) (others all : List Span) (text : List ℕ) (old middle new : List (Edit B)) (p : PushesEdit s text old middle) (is : all ≡ s ∷ others) where
  pub all_spans : spans_of new ≡ spans_of middle ++ others → spans_of new ≡ spans_of old ++ all
  all_spans rest = rest ∙ spans_next s text old middle p others (s ∷ others) (spans_of old ++ s ∷ others) refl refl ∙ ap (λ l. spans_of old ++ l) (sym is)

  pub all_texts : texts_of new ≡ texts_of middle ++ map no_text others → texts_of new ≡ texts_of old ++ first_only text all
  all_texts rest =
      rest ∙ texts_next s text old middle p (map no_text others) (text ∷ map no_text others) (texts_of old ++ text ∷ map no_text others) refl refl
      ∙ ap (λ l. texts_of old ++ first_only text l) (sym is)

  pub all_continue : Continues middle new → Continues old new
  all_continue more = continues_both old middle new (p.0 ∷ [], p.1) more
