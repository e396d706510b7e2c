-- Rows: terms of SPF records that are right and that are wrong, and the macros of RFC 7208 section 7, each computed.
use Rattle.std.specs.Prelude.{◌≡◌, true, false, refl, codes}
use Rattle.mail_texts.specs.Macros.{is_domain_spec, is_macro_string}
use Rattle.mail_texts.specs.SpfTerms.{are_spf_terms, has_bad_spf_term, has_repeated_modifier, has_unused_term, is_spf_term}

-- ---- terms

all_row : is_spf_term (codes "all") ≡ true
all_row = refl

signed_all_row : is_spf_term (codes "-all") ≡ true
signed_all_row = refl

capital_all_row : is_spf_term (codes "?ALL") ≡ true
capital_all_row = refl

host_row : is_spf_term (codes "a") ≡ true
host_row = refl

host_named_row : is_spf_term (codes "a:colo.example.com/28") ≡ true
host_named_row = refl

exchanges_row : is_spf_term (codes "mx/30") ≡ true
exchanges_row = refl

exchanges_named_row : is_spf_term (codes "mx:example.org/30") ≡ true
exchanges_named_row = refl

both_lengths_row : is_spf_term (codes "a:example.org/24//64") ≡ true
both_lengths_row = refl

second_length_row : is_spf_term (codes "mx//64") ≡ true
second_length_row = refl

pointer_row : is_spf_term (codes "ptr") ≡ true
pointer_row = refl

pointer_named_row : is_spf_term (codes "ptr:example.org") ≡ true
pointer_named_row = refl

network4_row : is_spf_term (codes "ip4:192.0.2.128/28") ≡ true
network4_row = refl

address4_row : is_spf_term (codes "+ip4:192.0.2.0") ≡ true
address4_row = refl

network6_row : is_spf_term (codes "ip6:2001:db8::/32") ≡ true
network6_row = refl

included_row : is_spf_term (codes "include:_spf.example.com") ≡ true
included_row = refl

macro_exists_row : is_spf_term (codes "exists:%{ir}.%{l1r+-}._spf.%{d}") ≡ true
macro_exists_row = refl

redirected_row : is_spf_term (codes "redirect=_spf.example.com") ≡ true
redirected_row = refl

explained_row : is_spf_term (codes "exp=explain._spf.%{d}") ≡ true
explained_row = refl

unknown_modifier_row : is_spf_term (codes "moo.cow-far_out=man:dog/cat") ≡ true
unknown_modifier_row = refl

macro_length_row : is_spf_term (codes "a:%{d}/24") ≡ true
macro_length_row = refl

slash_inside_row : is_spf_term (codes "a:foo/bar.example.com/24") ≡ true
slash_inside_row = refl

final_dot_row : is_spf_term (codes "include:example.com.") ≡ true
final_dot_row = refl

no_mechanism_row : is_spf_term (codes "includ:foo.com") ≡ false
no_mechanism_row = refl

equals_include_row : is_spf_term (codes "include=foo.com") ≡ false
equals_include_row = refl

number_above_row : is_spf_term (codes "ip4:192.0.2.300") ≡ false
number_above_row = refl

three_numbers_row : is_spf_term (codes "ip4:192.0.2") ≡ false
three_numbers_row = refl

leading_zero_row : is_spf_term (codes "ip4:192.0.02.1") ≡ false
leading_zero_row = refl

long_prefix_row : is_spf_term (codes "ip4:192.0.2.0/33") ≡ false
long_prefix_row = refl

long_second_row : is_spf_term (codes "a//129") ≡ false
long_second_row = refl

zero_prefix_row : is_spf_term (codes "mx/030") ≡ false
zero_prefix_row = refl

argument_of_all_row : is_spf_term (codes "all:example.com") ≡ false
argument_of_all_row = refl

empty_include_row : is_spf_term (codes "include:") ≡ false
empty_include_row = refl

one_label_row : is_spf_term (codes "a:example") ≡ false
one_label_row = refl

numeric_top_row : is_spf_term (codes "a:example.111") ≡ false
numeric_top_row = refl

open_macro_row : is_spf_term (codes "exists:%{d") ≡ false
open_macro_row = refl

unknown_macro_row : is_spf_term (codes "exists:%{x}.example.com") ≡ false
unknown_macro_row = refl

lone_percent_row : is_spf_term (codes "exists:100%.example.com") ≡ false
lone_percent_row = refl

empty_redirect_row : is_spf_term (codes "redirect=") ≡ false
empty_redirect_row = refl

name_alone_row : is_spf_term (codes "exists") ≡ false
name_alone_row = refl

double_sign_row : is_spf_term (codes "--all") ≡ false
double_sign_row = refl

address_alone_row : is_spf_term (codes "192.0.2.1") ≡ false
address_alone_row = refl

quoted_row : is_spf_term (codes "\"-all\"") ≡ false
quoted_row = refl

digit_name_row : is_spf_term (codes "1x=y") ≡ false
digit_name_row = refl

-- ---- several terms

two_terms_row : are_spf_terms (codes " +mx a:colo.example.com/28 -all") ≡ true
two_terms_row = refl

no_terms_row : are_spf_terms (codes "") ≡ true
no_terms_row = refl

blanks_row : are_spf_terms (codes "  mx   -all ") ≡ true
blanks_row = refl

one_wrong_term_row : are_spf_terms (codes " mx includ:foo.com -all") ≡ false
one_wrong_term_row = refl

-- ---- domain-specs (section 7.4)

reversed_row : is_domain_spec (codes "%{ir}.%{v}._spf.%{d2}") ≡ true
reversed_row = refl

hyphens_row : is_domain_spec (codes "%{lr-}.lp._spf.%{d2}") ≡ true
hyphens_row = refl

trusted_row : is_domain_spec (codes "%{d2}.trusted-domains.example.net") ≡ true
trusted_row = refl

delimiters_row : is_domain_spec (codes "%{d4r+-/}") ≡ true
delimiters_row = refl

escaped_end_row : is_domain_spec (codes "%%") ≡ true
escaped_end_row = refl

hyphen_top_row : is_domain_spec (codes "example.a-b") ≡ true
hyphen_top_row = refl

no_name_row : is_domain_spec (codes "") ≡ false
no_name_row = refl

literal_row : is_domain_spec (codes "example") ≡ false
literal_row = refl

two_dots_row : is_domain_spec (codes "example.com..") ≡ false
two_dots_row = refl

hyphen_end_row : is_domain_spec (codes "example.com-") ≡ false
hyphen_end_row = refl

-- ---- macro-strings

escapes_row : is_macro_string (codes "%_%-%%a") ≡ true
escapes_row = refl

literals_row : is_macro_string (codes "~all") ≡ true
literals_row = refl

order_row : is_macro_string (codes "%{dr2}") ≡ false
order_row = refl

not_closed_row : is_macro_string (codes "%{d.") ≡ false
not_closed_row = refl

space_row : is_macro_string (codes "a b") ≡ false
space_row = refl

-- ---- records

right_record_row : has_bad_spf_term (codes "v=spf1 mx -all") ≡ false
right_record_row = refl

wrong_record_row : has_bad_spf_term (codes "V=SPF1 ip4:192.0.2.300 -all") ≡ true
wrong_record_row = refl

version_alone_row : has_bad_spf_term (codes "v=spf1") ≡ false
version_alone_row = refl

other_version_row : has_bad_spf_term (codes "v=spf10 includ:x") ≡ false
other_version_row = refl

other_text_row : has_bad_spf_term (codes "v=DKIM1; p=") ≡ false
other_text_row = refl

-- ---- terms without an effect, and modifiers that are repeated (sections 5.1, 6 and 6.1)

mechanism_after_all_row : has_unused_term 0 (codes "v=spf1 -all mx") ≡ true
mechanism_after_all_row = refl

second_all_row : has_unused_term 0 (codes "v=spf1 mx ~all -all") ≡ true
second_all_row = refl

modifier_after_all_row : has_unused_term 0 (codes "v=spf1 mx -all exp=e.example.com") ≡ false
modifier_after_all_row = refl

all_at_end_row : has_unused_term 0 (codes "v=spf1 mx -all ") ≡ false
all_at_end_row = refl

malformed_after_all_row : has_unused_term 0 (codes "v=spf1 -all mx includ:x") ≡ false
malformed_after_all_row = refl

redirect_beside_all_row : has_unused_term 1 (codes "v=spf1 redirect=a.example.com ?all") ≡ true
redirect_beside_all_row = refl

redirect_alone_row : has_unused_term 1 (codes "v=spf1 mx redirect=a.example.com") ≡ false
redirect_alone_row = refl

two_redirects_row : has_repeated_modifier (codes "v=spf1 redirect=a.example.com REDIRECT=b.example.com") ≡ true
two_redirects_row = refl

two_explanations_row : has_repeated_modifier (codes "v=spf1 exp=a.example.com -all exp=a.example.com") ≡ true
two_explanations_row = refl

one_of_each_row : has_repeated_modifier (codes "v=spf1 exp=a.example.com redirect=b.example.com") ≡ false
one_of_each_row = refl

two_unknown_row : has_repeated_modifier (codes "v=spf1 x=1 x=2 -all") ≡ false
two_unknown_row = refl
