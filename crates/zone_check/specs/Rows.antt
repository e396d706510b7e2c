-- Worked examples: findings about entries.
use Rattle.std.specs.Prelude.{◌≡◌, ℕ, true, false, List, [], ◌∷◌, ◌++◌, codes, Some, None, Ok, refl}
use Rattle.std.specs.Fmt.{digits}
use Rattle.dns_lexer.specs.EntryTokens.{TokenSeen}
use Rattle.dns_lexer.specs.Pieces.{comment_at, end_at, quote_at as quote_piece_at, word_at as word_piece_at}
use Rattle.rdata.specs.Types.{type_shapes}
use Rattle.rdata_values.specs.Rtype as Rtype
use Rattle.rdata_values.specs.Types.{type_rows}
use Rattle.zone_rules.specs.declared.rule.Finding.{Finding}
use Rattle.zone_generate.specs.declared.format.NumberBase.TheVariants.{Nibbles}
use Rattle.zone_generate.specs.declared.part.Part.{Part}
use Rattle.zone_generate.specs.declared.part.Part.TheVariants.{Number}
use Rattle.zone_reader.specs.declared.ttl.RecordTtl.TheVariants.{Explicit, Minimum}
use Rattle.finding_codes.specs.Rule.{coded_rule}
use Rattle.finding_codes.specs.Table.{finding_rows, first_rows, later_rows, way_rows}
use Rattle.finding_codes.specs.declared.code.Code.TheVariants.{AdjacentTokens, CaaTag, CnameLoop, CommentInData, ControlOctet, ControlZ, Data, Duplicate, GenerateDot, Glue, HighOctet, LeadingParenthesis, MaxEntry, MaxTtl, MissingDot, NaptrBoth, NaptrRegexp, NestedParentheses, NoFinalNewline, NoOrigin, NoOwner, Nul, ReverseName, SoaMail, SoaMinimumTtl, SoaTimers, SpfType, TargetAddress, Ttl, TtlDiffers, TxtWords, WildcardInside, Unportable}
use Rattle.zone_check.specs.declared.entry.EntryKind.TheVariants.{Blank, OneRecord, TooLong}
use Rattle.zone_check.specs.declared.finding.About.TheVariants.{Entry, Octets, Rejection, RuleAtToken, RuleOfRecord, Token}
use Rattle.zone_check.specs.declared.finding.EntryFinding.{EntryFinding}
use Rattle.zone_check.specs.declared.octet_findings.ReportedOctets.{ReportedOctets}
use Rattle.zone_check.specs.declared.zone_findings.BrokenRule.{BrokenRule}
use Rattle.zone_check.specs.Data.{has_ohttp_value}
use Rattle.zone_check.specs.EntryFindings.{is_directive, is_news, is_of_parameters, is_scanned, long_finding, rejection_with, reports_crlf}
use Rattle.zone_check.specs.FindingSpans.{finding_at, finding_of_entry}
use Rattle.zone_check.specs.GenerateFindings.{dot_finding, dot_part, is_dot_part, of_name_field}
use Rattle.zone_check.specs.Lint.{entry_remarks, first_reached, remark, unended}
use Rattle.zone_check.specs.NameFindings.{name_findings, record_names}
use Rattle.zone_check.specs.Names.{ends_in_dot, ends_like}
use Rattle.zone_check.specs.OctetFindings.{octet_findings}
use Rattle.zone_check.specs.RejectionFindings.{rejected_finding}
use Rattle.zone_check.specs.RuleFindings.{rule_finding, rule_findings}
use Rattle.zone_check.specs.Scan.{scan_of}
use Rattle.zone_check.specs.TokensOf.{begins_with_blank}
use Rattle.zone_check.specs.Unportable.{bare_octet, escaped_from, is_bare_name, unportable_findings}
use Rattle.zone_check.specs.ValueFindings.{last_long_ttl, max_ttl_finding, minimum_finding}
use Rattle.zone_check.specs.ZoneFindings.{is_reported_rule, reported_finding, without_repeats}

abbrev word_at : ℕ → List ℕ → TokenSeen
word_at at text = record { text = text; is_quoted = false; is_adjacent = false; at = at }

abbrev quoted_at : ℕ → List ℕ → TokenSeen
quoted_at at text = record { text = text; is_quoted = true; is_adjacent = false; at = at }

-- all findings about octets
abbrev all_octets : ReportedOctets
all_octets = record { nul = true; control_z = true; leading_parenthesis = true; high_octet = true; control_octet = true; nested_parentheses = true; adjacent_tokens = true; crlf = true; no_final_newline = true }

plain_entry : scan_of (codes "a IN A 192.0.2.1\n") ≡ record { is_plain = true; has_parenthesis = false; has_quote = false; has_backslash = false; has_semicolon = false }
plain_entry = refl

quoted_entry : scan_of (codes "a TXT ( \"\\" ++ 252 ∷ codes "\" ) ; b\n") ≡ record { is_plain = false; has_parenthesis = true; has_quote = true; has_backslash = true; has_semicolon = true }
quoted_entry = refl

-- `a MX 10 b`, at the token `b`
fourth_token : rejected_finding Data 8 (word_at 0 (codes "a") ∷ word_at 2 (codes "MX") ∷ word_at 5 (codes "10") ∷ word_at 8 (codes "b") ∷ []) ≡ finding_at Data 8 1 Rejection
fourth_token = refl

-- `a TXT "b"`, after the last token
after_last : rejected_finding Data 10 (word_at 0 (codes "a") ∷ word_at 2 (codes "TXT") ∷ quoted_at 6 (codes "b") ∷ []) ≡ finding_at Data 9 1 Rejection
after_last = refl

quotes_are_part : finding_of_entry SpfType Entry (quoted_at 3 (codes "ab") ∷ []) ≡ finding_at SpfType 3 4 Entry
quotes_are_part = refl

control_z_ends : octet_findings all_octets (remark 0 ControlZ ∷ remark 2 ControlOctet ∷ []) ≡ finding_at ControlZ 0 1 Octets ∷ []
control_z_ends = refl

control_octets : octet_findings all_octets (remark 1 ControlOctet ∷ remark 4 ControlOctet ∷ []) ≡ finding_at ControlOctet 1 1 Octets ∷ finding_at ControlOctet 4 1 Octets ∷ []
control_octets = refl

-- `www.example.org` below `example.org.`
ends_like_origin : ends_like (codes "www.Example.org") (codes "example.org") ≡ true
ends_like_origin = refl

ends_otherwise : ends_like (codes "myexample.org") (codes "example.org") ≡ false
ends_otherwise = refl

-- `a\.` is relative, `a\\.` is not
escaped_dot : ends_in_dot (codes "a\\.") ≡ false
escaped_dot = refl

escaped_backslash : ends_in_dot (codes "a\\\\.") ≡ true
escaped_backslash = refl

missing_dot : name_findings (codes "example.org") false false (word_at 0 (codes "www.example.org") ∷ word_at 20 (codes "a.example.org.") ∷ word_at 40 (codes "b") ∷ []) ≡ finding_at MissingDot 0 15 Token ∷ []
missing_dot = refl

-- `a CNAME b` without an origin: once
below_root_once : name_findings [] true false (word_at 0 (codes "a") ∷ word_at 8 (codes "b") ∷ []) ≡ finding_at NoOrigin 0 1 Token ∷ []
below_root_once = refl

below_root_before : name_findings [] true true (word_at 0 (codes "a") ∷ word_at 8 (codes "b") ∷ []) ≡ []
below_root_before = refl

-- `a MX 10 b`: the second field is a name
mail_names : record_names Rtype.mx (Some (word_at 0 (codes "a"))) (word_at 5 (codes "10") ∷ word_at 8 (codes "b") ∷ []) ≡ word_at 0 (codes "a") ∷ word_at 8 (codes "b") ∷ []
unfolding type_shapes
mail_names = refl

-- ` NS \# 3 0161 00`
generic_names : record_names Rtype.ns None (word_at 4 (codes "\\#") ∷ word_at 7 (codes "3") ∷ word_at 9 (codes "016100") ∷ []) ≡ []
unfolding type_shapes
generic_names = refl

-- an SOA whose minimum is its TTL, and one that is read as 0 for 4294967295 seconds
minimum : minimum_finding (Minimum 300) (word_at 0 (codes "@") ∷ []) ≡ Some (finding_at SoaMinimumTtl 0 1 Entry)
minimum = refl

long_minimum : last_long_ttl 0 (1 ∷ 255 ∷ 255 ∷ 255 ∷ 255 ∷ []) (word_at 0 (codes "@") ∷ word_at 30 (codes "4294967295") ∷ []) ≡ Some (finding_at Ttl 30 10 Token)
long_minimum = refl

above_limit : max_ttl_finding (Explicit 700000) (Some 604800) (word_at 0 (codes "a") ∷ []) ≡ Some (finding_at MaxTtl 0 1 Entry)
above_limit = refl

-- `1 . ohttp=x`: RFC 9540 has no value
ohttp_with_value : has_ohttp_value Rtype.https (0 ∷ 1 ∷ 0 ∷ 0 ∷ 8 ∷ 0 ∷ 1 ∷ 120 ∷ []) ≡ true
ohttp_with_value = refl

-- `1 x. alpn=h2 ohttp`
ohttp_alone : has_ohttp_value Rtype.svcb (0 ∷ 1 ∷ 1 ∷ 120 ∷ 0 ∷ 0 ∷ 1 ∷ 0 ∷ 3 ∷ 2 ∷ 104 ∷ 50 ∷ 0 ∷ 8 ∷ 0 ∷ 0 ∷ []) ≡ false
ohttp_alone = refl

-- `@ SOA a b 1 60 90 ..`: retry is the fifth field
retry : rule_finding (coded_rule SoaTimers 0) Rtype.soa false (word_at 0 (codes "@") ∷ [])
    (word_at 6 (codes "a") ∷ word_at 8 (codes "b") ∷ word_at 10 (codes "1") ∷ word_at 12 (codes "60") ∷ word_at 15 (codes "90") ∷ []) ≡ finding_at SoaTimers 15 2 (RuleAtToken (coded_rule SoaTimers 0))
unfolding finding_rows first_rows later_rows way_rows
retry = refl

-- `c NAPTR 1 1 "u" "x" "!a!b" .`: the regexp is the fifth field, with its quotes
regexp : rule_finding (coded_rule NaptrRegexp 0) Rtype.naptr false (word_at 0 (codes "c") ∷ [])
    (word_at 8 (codes "1") ∷ word_at 10 (codes "1") ∷ quoted_at 12 (codes "u") ∷ quoted_at 16 (codes "x") ∷ quoted_at 20 (codes "!a!b") ∷ word_at 27 (codes ".") ∷ [])
    ≡ finding_at NaptrRegexp 20 6 (RuleAtToken (coded_rule NaptrRegexp 0))
unfolding finding_rows first_rows later_rows way_rows
regexp = refl

-- `r CAA 0 isue "ca.example"`, `r MX 10 192.0.2.1`, `r TXT v=spf1 a -all`, `r TXT v=DKIM1; p=abc`
unknown_tag : rule_finding (coded_rule CaaTag 0) Rtype.caa false (word_at 0 (codes "r") ∷ []) (word_at 6 (codes "0") ∷ word_at 8 (codes "isue") ∷ quoted_at 13 (codes "ca.example") ∷ []) ≡ finding_at CaaTag 8 4 (RuleAtToken (coded_rule CaaTag 0))
unfolding finding_rows first_rows later_rows way_rows
unknown_tag = refl

address : rule_finding (coded_rule TargetAddress 0) Rtype.mx false (word_at 0 (codes "r") ∷ []) (word_at 5 (codes "10") ∷ word_at 8 (codes "192.0.2.1") ∷ []) ≡ finding_at TargetAddress 8 9 (RuleAtToken (coded_rule TargetAddress 0))
unfolding finding_rows first_rows later_rows way_rows
address = refl

words : rule_finding (coded_rule TxtWords 0) Rtype.txt false (word_at 0 (codes "r") ∷ []) (word_at 6 (codes "v=spf1") ∷ word_at 13 (codes "a") ∷ word_at 15 (codes "-all") ∷ []) ≡ finding_at TxtWords 6 6 (RuleAtToken (coded_rule TxtWords 0))
unfolding finding_rows first_rows later_rows way_rows
words = refl

comment : rule_finding (coded_rule CommentInData 0) Rtype.txt false (word_at 0 (codes "r") ∷ []) (word_at 6 (codes "v=DKIM1") ∷ []) ≡ finding_at CommentInData 6 7 (RuleAtToken (coded_rule CommentInData 0))
unfolding finding_rows first_rows later_rows way_rows
comment = refl

-- `b.*.a TXT "c"`: the owner
wildcard_inside : rule_finding (coded_rule WildcardInside 0) Rtype.txt false (word_at 0 (codes "b.*.a") ∷ word_at 6 (codes "TXT") ∷ quoted_at 10 (codes "c") ∷ []) (quoted_at 10 (codes "c") ∷ []) ≡ finding_at WildcardInside 0 5 (RuleAtToken (coded_rule WildcardInside 0))
unfolding finding_rows first_rows later_rows way_rows
wildcard_inside = refl

-- `c NAPTR \# 17 ..` has no fields: the record as a whole
generic_data : rule_finding (coded_rule NaptrBoth 0) Rtype.naptr false (word_at 0 (codes "c") ∷ word_at 2 (codes "NAPTR") ∷ word_at 8 (codes "\\#") ∷ []) (word_at 8 (codes "\\#") ∷ []) ≡ finding_at NaptrBoth 0 1 (RuleOfRecord (coded_rule NaptrBoth 0))
unfolding finding_rows first_rows later_rows way_rows
generic_data = refl

inherited_owner : rule_finding (coded_rule ReverseName 0) Rtype.ptr true (word_at 1 (codes "PTR") ∷ word_at 5 (codes "a.") ∷ []) (word_at 5 (codes "a.") ∷ []) ≡ finding_at ReverseName 1 3 (RuleOfRecord (coded_rule ReverseName 0))
unfolding finding_rows first_rows later_rows way_rows
inherited_owner = refl

-- the root is assumed as the origin: a mail name of one label is not a slip
mail_below_root : rule_findings Rtype.soa [] (record { begins_blank = false; is_below_root = true }) [] [] (coded_rule SoaMail 1 ∷ []) ≡ []
mail_below_root = refl

-- ` A 192.0.2.1`
blank_first : begins_with_blank (codes " A 192.0.2.1\n") ≡ true
blank_first = refl

-- `$TTL 1h` is a directive, ` $TTL 1h` is not
directive_first : is_directive (codes "$TTL 1h\n") (word_at 0 (codes "$TTL") ∷ word_at 5 (codes "1h") ∷ []) ≡ true
directive_first = refl

directive_after_blank : is_directive (codes " $TTL 1h\n") (word_at 1 (codes "$TTL") ∷ word_at 6 (codes "1h") ∷ []) ≡ false
directive_after_blank = refl

-- the octets of a generated entry are not in the file
generated_octets : is_scanned true Blank ≡ false
generated_octets = refl

long_octets : is_scanned false TooLong ≡ false
long_octets = refl

-- `a HTTPS 1 . alpn="h2"`
adjacent_value : is_of_parameters (OneRecord (Explicit 60) 1 Rtype.https) ≡ true
adjacent_value = refl

crlf_once : reports_crlf Blank true ≡ false
crlf_once = refl

-- ` A 192.0.2.1` after a rejected owner: once
owner_missing : rejection_with NoOwner 1 (is_news NoOwner false false) (word_at 1 (codes "A") ∷ []) ≡ Some (finding_at NoOwner 1 1 Rejection)
owner_missing = refl

owner_missing_again : rejection_with NoOwner 1 (is_news NoOwner false true) (word_at 1 (codes "A") ∷ []) ≡ None
owner_missing_again = refl

too_long : long_finding ≡ finding_at MaxEntry 0 1 Entry
too_long = refl

-- the fourth record has no glue: at its target, in a zone whose records were all read
abbrev lost_glue : Finding
lost_glue = record { rule = coded_rule Glue 0; «record» = Some 3 }

glue_at_target : reported_finding (record { is_zone = true; has_gap = false }) lost_glue ≡ Some (record { rule = coded_rule Glue 0; «record» = Some 3; is_at_target = true })
unfolding finding_rows first_rows later_rows
glue_at_target = refl

glue_after_gap : reported_finding (record { is_zone = true; has_gap = true }) lost_glue ≡ None
unfolding finding_rows first_rows later_rows
glue_after_gap = refl

-- without a zone two TTLs of an RRset are reported, and a CNAME that leads to itself is not
ttl_without_zone : is_reported_rule (coded_rule TtlDiffers 0) (record { is_zone = false; has_gap = true }) ≡ true
ttl_without_zone = refl

loop_without_zone : is_reported_rule (coded_rule CnameLoop 0) (record { is_zone = false; has_gap = false }) ≡ false
loop_without_zone = refl

-- two duplicates of one directive: once
abbrev duplicate_at : ℕ → BrokenRule
duplicate_at place = record { finding = record { rule = coded_rule Duplicate 0; «record» = Some place }; directive = Some (record { file = 0; line = 7 }) }

duplicates_once : without_repeats [] (duplicate_at 4 ∷ duplicate_at 9 ∷ []) ≡ duplicate_at 4 ∷ []
duplicates_once = refl

-- `${0,4,n}` writes `1.0.` of 1, and `${0,3,n}` writes `1.0`
abbrev nibbles_of : ℕ → Part
nibbles_of width = Number (record { is_negative = false; offset = 0; width = width; base = Nibbles })

even_width : is_dot_part 1 (nibbles_of 4) [] ≡ true
unfolding digits
even_width = refl

odd_width : is_dot_part 1 (nibbles_of 3) [] ≡ false
unfolding digits
odd_width = refl

-- the name continues after `${0,4,n}` in `${0,4,n}ip6.arpa.`
name_continues : is_dot_part 1 (nibbles_of 4) (codes "ip6.arpa.") ≡ false
name_continues = refl

-- `"10 ${0,4,n}"`: the second field of an MX is a name, the first is not
abbrev in_rdata : TokenSeen
in_rdata = quoted_at 18 (codes "10 ${0,4,n}")

dot_in_rdata : dot_finding in_rdata (of_name_field (Some Rtype.mx) (dot_part (record { first = 1; last = 2; step = 1 }) in_rdata)) ≡ Some (finding_at GenerateDot 22 8 Token)
unfolding type_shapes digits
dot_in_rdata = refl

-- ---- words that not every server reads

bare_name : bare_octet (codes "a=b") ≡ Some 61
bare_name = refl

escaped_name : bare_octet (codes "a\\=b") ≡ None
escaped_name = refl

usual_name : bare_octet (codes "_x.0/26.*") ≡ None
usual_name = refl

origin_sign : is_bare_name (codes "@") ≡ false
origin_sign = refl

written_name : escaped_from false (codes "Bob's\\032P") ≡ codes "Bob\\'s\\032P"
written_name = refl

abbrev unportable_at : (at width way : ℕ) → EntryFinding
unportable_at at width way = finding_at Unportable at width (RuleAtToken (coded_rule Unportable way))

owner_of_txt : unportable_findings false Rtype.txt (Some (word_at 0 (codes "a=b"))) (word_at 8 (codes "c=d") ∷ []) ≡ unportable_at 0 3 0 ∷ []
unfolding type_shapes
owner_of_txt = refl

reported_name : unportable_findings true Rtype.txt (Some (word_at 0 (codes "a=b"))) (word_at 8 (codes "c=d") ∷ []) ≡ []
unfolding type_shapes
reported_name = refl

type_in_bitmap : unportable_findings false Rtype.nsec (Some (word_at 0 (codes "x"))) (word_at 7 (codes "y") ∷ word_at 9 (codes "a") ∷ word_at 11 (codes "X25") ∷ word_at 15 (codes "TYPE19") ∷ []) ≡ unportable_at 11 3 5 ∷ []
unfolding type_shapes type_rows
type_in_bitmap = refl

algorithm_of_ds : unportable_findings false Rtype.ds None (word_at 6 (codes "1") ∷ word_at 8 (codes "Ecc-Gost") ∷ []) ≡ unportable_at 8 8 1 ∷ []
unfolding type_shapes
algorithm_of_ds = refl

key_of_https : unportable_findings false Rtype.https None (word_at 9 (codes "1") ∷ word_at 11 (codes "@") ∷ word_at 13 (codes "dohpath=/q") ∷ []) ≡ unportable_at 13 7 4 ∷ []
unfolding type_shapes
key_of_https = refl

lint_of_tokens : entry_remarks (codes "a \"b" ++ 0 ∷ 1 ∷ 252 ∷ codes "\"\n" ++ 26 ∷ []) first_reached (Ok (word_piece_at 0 1) ∷ Ok (quote_piece_at 2 8) ∷ Ok (end_at 9 false) ∷ []) ≡ remark 4 Nul ∷ remark 6 HighOctet ∷ remark 5 ControlOctet ∷ remark 9 ControlZ ∷ []
lint_of_tokens = refl

parentheses : entry_remarks (codes "a (b (c)) (d)\n") first_reached (Ok (word_piece_at 0 1) ∷ Ok (word_piece_at 3 4) ∷ Ok (word_piece_at 6 7) ∷ Ok (word_piece_at 11 12) ∷ Ok (end_at 14 false) ∷ []) ≡ remark 5 NestedParentheses ∷ []
parentheses = refl

control_in_word : entry_remarks (97 ∷ 7 ∷ 127 ∷ codes "\n") first_reached (Ok (word_piece_at 0 3) ∷ Ok (end_at 4 false) ∷ []) ≡ remark 1 ControlOctet ∷ []
control_in_word = refl

leading : entry_remarks (codes "a\n(b)\n") first_reached (Ok (word_piece_at 0 1) ∷ Ok (end_at 2 false) ∷ Ok (word_piece_at 3 4) ∷ Ok (end_at 6 false) ∷ []) ≡ remark 2 LeadingParenthesis ∷ []
leading = refl

adjacent : entry_remarks (codes "a\"b\"\"c\" \"d\";e\n") first_reached (Ok (word_piece_at 0 1) ∷ Ok (quote_piece_at 1 4) ∷ Ok (quote_piece_at 4 7) ∷ Ok (quote_piece_at 8 11) ∷ Ok (comment_at 11 13) ∷ Ok (end_at 14 false) ∷ []) ≡ remark 1 AdjacentTokens ∷ remark 4 AdjacentTokens ∷ []
adjacent = refl

no_end : unended (codes "a\nb") ≡ remark 3 NoFinalNewline ∷ []
no_end = refl

ended : unended (codes "a\n") ≡ []
ended = refl
