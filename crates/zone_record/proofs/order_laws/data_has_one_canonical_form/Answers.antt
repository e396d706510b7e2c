use Rattle.zone_record.proofs.FieldWalks.{forms_alike, forms_behind, forms_some, forms_same, forms_long, forms_begin, forms_again}
use Rattle.zone_record.proofs.UntextedNames.{untexted_starts}
use Rattle.zone_record.proofs.order_laws.data_has_one_canonical_form.Goals as goal

pub returns : goal.returns
returns c = record {
  some = λ fields octets. (forms_some fields octets, λ h. forms_begin fields octets h.0 h.1);
  one = λ fields octets form h other. forms_same fields octets form other h;
  length = forms_long;
  fields = λ fields octets form h. forms_begin fields form form (forms_again fields octets form h);
  alike = forms_alike;
  behind = λ fields octets form h more. forms_behind fields octets form more h;
  again = forms_again;
  untexted = untexted_starts;
}
