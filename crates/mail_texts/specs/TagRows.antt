-- Rows: records of DMARC and keys of DKIM that are right and that are wrong, and strings and base 64, each computed.
use Rattle.std.specs.Prelude.{ℕ, Some, None, ◌≡◌, true, false, refl, codes, List, [], ◌∷◌, ◌++◌, length}
use Rattle.mail_texts.specs.Dkim.{has_any_bad_dkim, has_bad_dkim, octets_of64}
use Rattle.mail_texts.specs.Dmarc.{has_bad_dmarc}
use Rattle.mail_texts.specs.Joined.{text_of_strings, joint_index}

-- ---- strings

abbrev string : List ℕ → List ℕ
string octets = length octets ∷ octets

joined_row : text_of_strings (2 ∷ codes "ab" ++ 0 ∷ 1 ∷ codes "c") ≡ codes "abc"
joined_row = refl

cut_string_row : text_of_strings (3 ∷ codes "ab") ≡ codes "ab"
cut_string_row = refl

joint_row : joint_index (string (codes "v=spf1 include:a.net") ++ string (codes "include:b.net -all")) ≡ Some 1
joint_row = refl

third_joint_row : joint_index (string (codes "v=spf1 mx ") ++ (string (codes "a") ++ string (codes "~all"))) ≡ Some 2
third_joint_row = refl

redirect_joint_row : joint_index (string (codes "v=spf1 mx") ++ string (codes "redirect=a.b")) ≡ Some 1
redirect_joint_row = refl

blank_row : joint_index (string (codes "v=spf1 include:a.net ") ++ string (codes "include:b.net -all")) ≡ None
blank_row = refl

split_word_row : joint_index (string (codes "v=spf1 ip4:192.0.2.1 inclu") ++ string (codes "de:b.net -all")) ≡ None
split_word_row = refl

split_name_row : joint_index (string (codes "v=spf1 include:b.exam") ++ string (codes "ple.net all")) ≡ None
split_name_row = refl

-- ---- versions of DMARC (RFC 7489 section 6.3, and the examples of its appendix B.2)

version_row : has_bad_dmarc 0 (codes "v=DMARC1; p=none; rua=mailto:dmarc-feedback@example.com") ≡ false
version_row = refl

spaced_version_row : has_bad_dmarc 0 (codes "v = DMARC1 ; p=none") ≡ false
spaced_version_row = refl

lower_version_row : has_bad_dmarc 0 (codes "v=dmarc1; p=none") ≡ true
lower_version_row = refl

capital_v_row : has_bad_dmarc 0 (codes "V=DMARC1; p=none") ≡ true
capital_v_row = refl

longer_version_row : has_bad_dmarc 0 (codes "v=DMARC10; p=none") ≡ true
longer_version_row = refl

no_semicolon_row : has_bad_dmarc 0 (codes "v=DMARC1 p=none") ≡ true
no_semicolon_row = refl

other_text_row : has_bad_dmarc 0 (codes "v=spf1 -all") ≡ false
other_text_row = refl

no_version_row : has_bad_dmarc 5 (codes "p=none") ≡ false
no_version_row = refl

-- ---- tags of DMARC

tags_with_values_row : has_bad_dmarc 1 (codes "v=DMARC1; p=none; pct=25;") ≡ false
tags_with_values_row = refl

tag_without_value_row : has_bad_dmarc 1 (codes "v=DMARC1; p=none; rua") ≡ true
tag_without_value_row = refl

empty_parts_row : has_bad_dmarc 1 (codes "v=DMARC1;; p=none; ;") ≡ false
empty_parts_row = refl

one_of_each_row : has_bad_dmarc 2 (codes "v=DMARC1; p=none; sp=none; x=1; y=1") ≡ false
one_of_each_row = refl

tag_twice_row : has_bad_dmarc 2 (codes "v=DMARC1; p=none; rua=mailto:a@b; p=reject") ≡ true
tag_twice_row = refl

unknown_tag_twice_row : has_bad_dmarc 2 (codes "v=DMARC1; p=none; x=1; x=1") ≡ true
unknown_tag_twice_row = refl

capital_tag_row : has_bad_dmarc 2 (codes "v=DMARC1; p=none; P=none") ≡ false
capital_tag_row = refl

-- ---- values of DMARC

values_row : has_bad_dmarc 3 (codes "v=DMARC1; p=quarantine; sp=REJECT; np=none; adkim=s; aspf=r; t=y; psd=u; pct=100; ri=86400; fo=1:d:S") ≡ false
values_row = refl

slip_row : has_bad_dmarc 3 (codes "v=DMARC1; p=rejct") ≡ true
slip_row = refl

relaxed_row : has_bad_dmarc 3 (codes "v=DMARC1; p=none; adkim=relaxed") ≡ true
relaxed_row = refl

above_100_row : has_bad_dmarc 3 (codes "v=DMARC1; p=none; pct=101") ≡ true
above_100_row = refl

percent_sign_row : has_bad_dmarc 3 (codes "v=DMARC1; p=none; pct=50%") ≡ true
percent_sign_row = refl

bad_option_row : has_bad_dmarc 3 (codes "v=DMARC1; p=none; fo=1:x") ≡ true
bad_option_row = refl

no_interval_row : has_bad_dmarc 3 (codes "v=DMARC1; p=none; ri=") ≡ true
no_interval_row = refl

testing_row : has_bad_dmarc 3 (codes "v=DMARC1; p=none; t=1") ≡ true
testing_row = refl

other_tag_row : has_bad_dmarc 3 (codes "v=DMARC1; p=none; rf=afrf") ≡ false
other_tag_row = refl

uris_row : has_bad_dmarc 4 (codes "v=DMARC1; p=none; rua=mailto:a@example.com!10m, https://example.com/r") ≡ false
uris_row = refl

no_scheme_row : has_bad_dmarc 4 (codes "v=DMARC1; p=none; rua=dmarc@example.com") ≡ true
no_scheme_row = refl

second_no_scheme_row : has_bad_dmarc 4 (codes "v=DMARC1; p=none; ruf=mailto:a@b,c@d") ≡ true
second_no_scheme_row = refl

policy_row : has_bad_dmarc 5 (codes "v=DMARC1; p=none") ≡ false
policy_row = refl

reports_alone_row : has_bad_dmarc 5 (codes "v=DMARC1; rua=mailto:a@b") ≡ false
reports_alone_row = refl

no_policy_row : has_bad_dmarc 5 (codes "v=DMARC1; sp=reject") ≡ true
no_policy_row = refl

-- ---- base 64 (RFC 4648 section 10)

foobar_row : octets_of64 (codes "Zm9vYmFy") ≡ codes "foobar"
foobar_row = refl

foob_row : octets_of64 (codes "Zm9vYg") ≡ codes "foob"
foob_row = refl

fooba_row : octets_of64 (codes "Zm9vYmE") ≡ codes "fooba"
fooba_row = refl

signs_row : octets_of64 (codes "+/+/") ≡ 251 ∷ 255 ∷ 191 ∷ []
signs_row = refl

-- ---- keys of DKIM (RFC 6376 section 3.6.1, RFC 8463 appendix A.2)

ed25519_row : has_any_bad_dkim (codes "v=DKIM1; k=ed25519; p=11qYAYKxCrfVS/7TyWQHOg7hcvPapiMlrwIaaPcHURo=") ≡ false
ed25519_row = refl

sequence_row : has_any_bad_dkim (codes "v=DKIM1; p=MAMCAQE=") ≡ false
sequence_row = refl

spaced_sequence_row : has_any_bad_dkim (codes "v=DKIM1; k=rsa; p=MAMC AQE=") ≡ false
spaced_sequence_row = refl

revoked_row : has_any_bad_dkim (codes "v=DKIM1; p=") ≡ false
revoked_row = refl

key_alone_row : has_any_bad_dkim (codes "p=MAMCAQE=; t=y") ≡ false
key_alone_row = refl

other_key_text_row : has_any_bad_dkim (codes "some text") ≡ false
other_key_text_row = refl

unknown_kind_row : has_any_bad_dkim (codes "v=DKIM1; k=x; p=AAAA") ≡ false
unknown_kind_row = refl

late_version_row : has_bad_dkim 0 (codes "k=rsa; v=DKIM1; p=MAMCAQE=") ≡ true
late_version_row = refl

lower_dkim_row : has_bad_dkim 0 (codes "v=dkim1; p=MAMCAQE=") ≡ true
lower_dkim_row = refl

other_version_row : has_bad_dkim 0 (codes "v=DKIM2; p=MAMCAQE=") ≡ true
other_version_row = refl

no_key_row : has_bad_dkim 1 (codes "v=DKIM1; k=rsa") ≡ true
no_key_row = refl

bad_digit_row : has_bad_dkim 2 (codes "v=DKIM1; p=MAMC-AQE=") ≡ true
bad_digit_row = refl

three_paddings_row : has_bad_dkim 2 (codes "v=DKIM1; p=MAMCAQE===") ≡ true
three_paddings_row = refl

lone_digit_row : has_bad_dkim 3 (codes "v=DKIM1; p=MAMCA") ≡ true
lone_digit_row = refl

short_sequence_row : has_bad_dkim 4 (codes "v=DKIM1; p=MAMC") ≡ true
short_sequence_row = refl

long_sequence_row : has_bad_dkim 4 (codes "v=DKIM1; p=MAMCAQEA") ≡ true
long_sequence_row = refl

no_sequence_row : has_bad_dkim 4 (codes "v=DKIM1; p=AAMCAQE=") ≡ true
no_sequence_row = refl

short_ed25519_row : has_bad_dkim 5 (codes "v=DKIM1; k=ed25519; p=MAMCAQE=") ≡ true
short_ed25519_row = refl
