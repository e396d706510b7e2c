-- Worked rows of the definitions, each computed.
use Rattle.std.specs.Prelude.{◌≡◌, [], ◌∷◌, ◌++◌, codes, refl}
use Rattle.std.specs.Fmt.{digits}
use Rattle.rdata_svcb.specs.Texts.{item_octet}
use Rattle.rdata_svcb.specs.ShownParams.{value_items, param_text}

-- examples of RFC 9460 appendix D.2
port : param_text (3, 0 ∷ 53 ∷ []) ≡ codes "port=53"
unfolding value_items digits
port = refl

list : param_text (1, (8 ∷ codes "f\\oo,bar") ++ (2 ∷ codes "h2")) ≡ codes "alpn=f\\\\\\\\oo\\\\,bar,h2"
unfolding value_items item_octet
list = refl
