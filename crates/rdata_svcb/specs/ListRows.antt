-- Worked rows of the definitions, each computed.
use Rattle.std.specs.Prelude.{◌≡◌, true, false, Some, [], ◌∷◌, ◌++◌, codes, refl}
use Rattle.std.specs.List.{list_all, list_any}
use Rattle.rdata_svcb.specs.Params.{param, param_list, params_of}
use Rattle.rdata_svcb.specs.Template.{are_variable_octets, begins_expression, begins_query, after_braces}
use Rattle.rdata_svcb.specs.Texts.{item_octet, list_text, wire_strings}
use Rattle.rdata_svcb.specs.Values.{first_missing}

-- port 53
port : param 3 (0 ∷ 53 ∷ []) ≡ 0 ∷ 3 ∷ 0 ∷ 2 ∷ 0 ∷ 53 ∷ []
unfolding param
port = refl

-- no-default-alpn and port 53; the last is truncated
read_params : params_of (0 ∷ 2 ∷ 0 ∷ 0 ∷ 0 ∷ 3 ∷ 0 ∷ 2 ∷ 0 ∷ 53 ∷ 0 ∷ 4 ∷ 0 ∷ 4 ∷ 1 ∷ []) ≡ (2, []) ∷ (3, 0 ∷ 53 ∷ []) ∷ []
unfolding param_list
read_params = refl

-- the example of RFC 9460 appendix D.2, after the character string is unescaped
list : list_text (codes "f\\oo,bar" ∷ codes "h2" ∷ []) ≡ codes "f\\\\oo\\,bar,h2"
unfolding item_octet
list = refl

strings : wire_strings (codes "h2" ∷ codes "h3-19" ∷ []) ≡ 2 ∷ codes "h2" ++ (5 ∷ codes "h3-19")
strings = refl

-- templates: the grammar of RFC 6570 section 2, and the variable of RFC 9461 section 5
template : list_all begins_expression (after_braces (codes "/q}{?d%6es,dns:9999}{x.y_1*}")) ≡ true
unfolding are_variable_octets
template = refl

query : list_any begins_query (after_braces (codes "/q{x}{&a,dns:3}")) ≡ true
query = refl

no_query : list_any begins_query (after_braces (codes "/dns{?dn%73,dns.x,Dns}")) ≡ false
no_query = refl

inside : list_all begins_expression (after_braces (codes "/{a{?dns}")) ≡ false
unfolding are_variable_octets
inside = refl

operator : list_all begins_expression (after_braces (codes "/q{=dns}")) ≡ false
unfolding are_variable_octets
operator = refl

zero : list_all begins_expression (after_braces (codes "/q{?dns:03}")) ≡ false
unfolding are_variable_octets
zero = refl

five_digits : list_all begins_expression (after_braces (codes "/q{?dns:10000}")) ≡ false
unfolding are_variable_octets
five_digits = refl

no_variable : list_all begins_expression (after_braces (codes "/q{}{?dns}")) ≡ false
unfolding are_variable_octets
no_variable = refl

two_dots : list_all begins_expression (after_braces (codes "/q{?a..b,dns}")) ≡ false
unfolding are_variable_octets
two_dots = refl

-- alpn is there, port is not
missing : first_missing ((1, 2 ∷ codes "h2") ∷ []) (0 ∷ 1 ∷ 0 ∷ 3 ∷ []) ≡ Some 3
missing = refl
