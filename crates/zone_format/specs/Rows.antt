-- Example lines and their forms.
use Rattle.std.specs.Prelude.{◌≡◌, ℕ, List, true, false, [], ◌∷◌, codes, refl}
use Rattle.zone_format.specs.Form.{Before, form, line_form}
use Rattle.zone_format.specs.declared.line_state.Above.TheVariants.{Nothing, Line}
use Rattle.zone_format.specs.Marks.{Token, Note, Close, Feed, Lead}
use Rattle.zone_format.specs.Refusal.{may_follow, order_mark_length}
use Rattle.zone_format.specs.Squeezed.{squeezed}

abbrev before : ℕ → ℕ → Before
before d n = record { depth = d; noted = n }

entry : line_form (before 0 0) (Token false (codes "a") ∷ Token false (codes "300") ∷ Token false (codes "IN") ∷ Token false (codes "A") ∷ Token false (codes "b") ∷ []) ≡ codes "a                          300 IN A     b"
entry = refl

no_owner : line_form (before 0 0) (Lead ∷ Token false (codes "IN") ∷ Token false (codes "NS") ∷ Token false (codes "b") ∷ []) ≡ codes "                               IN NS    b"
no_owner = refl

ttl_behind_the_class : line_form (before 0 0) (Token false (codes "a") ∷ Token false (codes "IN") ∷ Token false (codes "300") ∷ Token false (codes "A") ∷ Token false (codes "b") ∷ []) ≡ codes "a                              IN 300 A b"
ttl_behind_the_class = refl

numbered : line_form (before 0 0) (Token false (codes "a") ∷ Token false (codes "CLASS1") ∷ Token false (codes "TYPE1") ∷ Token false (codes "b") ∷ []) ≡ codes "a                              CLASS1 TYPE1 b"
numbered = refl

long_owner : line_form (before 0 0) (Token false (codes "ooooooooooooooooooooooooooooooo") ∷ Token false (codes "IN") ∷ Token false (codes "A") ∷ Token false (codes "b") ∷ []) ≡ codes "ooooooooooooooooooooooooooooooo        IN A     b"
long_owner = refl

glued : line_form (before 0 0) (Token false (codes "a") ∷ Token false (codes "TXT") ∷ Token false (codes "b=") ∷ Token true (codes "\"c\"") ∷ Token false (codes "\"d\"") ∷ []) ≡ codes "a                                 TXT   b=\"c\" \"d\""
glued = refl

directive : line_form (before 0 0) (Token false (codes "$TTL") ∷ Token false (codes "1h") ∷ Note (codes "; c") ∷ []) ≡ codes "$TTL 1h                                                 ; c"
directive = refl

inside : line_form (before 1 0) (Token false (codes "1") ∷ Close ∷ Note (codes "; c") ∷ []) ≡ codes "                                        1 )             ; c"
inside = refl

goes_on : line_form (before 0 57) (Lead ∷ Note (codes "; c") ∷ []) ≡ codes "                                                        ; c"
goes_on = refl

value_that_is_commented_out : line_form (before 1 57) (Note (codes "; 1 ; c") ∷ []) ≡ codes "                                        ; 1 ; c"
value_that_is_commented_out = refl

own : line_form (before 0 57) (Note (codes "; c") ∷ []) ≡ codes "; c"
own = refl

blank_lines : form (Feed ∷ Token false (codes "a") ∷ Feed ∷ Lead ∷ Feed ∷ Feed ∷ Token false (codes "b") ∷ []) ≡ codes "a\n\nb\n"
blank_lines = refl

squeezed_blank_lines : squeezed (Feed ∷ Token false (codes "a") ∷ Feed ∷ Lead ∷ Feed ∷ Feed ∷ Token false (codes "b") ∷ []) ≡ Token false (codes "a") ∷ Feed ∷ Feed ∷ Token false (codes "b") ∷ Feed ∷ []
squeezed_blank_lines = refl

nothing : form (Lead ∷ Feed ∷ Feed ∷ []) ≡ []
nothing = refl

-- EF BB BF, and then `a`
abbrev marked : List ℕ
marked = 239 ∷ 187 ∷ 191 ∷ 97 ∷ []

mark_lengths : (order_mark_length marked ≡ 3) × (order_mark_length (254 ∷ 255 ∷ 0 ∷ []) ≡ 2) × (order_mark_length (255 ∷ 254 ∷ []) ≡ 2) × (order_mark_length (239 ∷ 187 ∷ []) ≡ 0) × (order_mark_length (codes "a") ≡ 0)
mark_lengths = (refl, refl, refl, refl, refl)

-- a mark is an error in the first column of the first line that isn't blank, and there alone
first_thing : may_follow Nothing (Token false marked ∷ []) ≡ false
first_thing = refl

below_blank_lines : may_follow Nothing (Feed ∷ Lead ∷ Feed ∷ Token false marked ∷ []) ≡ false
below_blank_lines = refl

after_a_blank : may_follow Nothing (Lead ∷ Token false marked ∷ []) ≡ true
after_a_blank = refl

after_a_comment : may_follow Nothing (Note (codes ";") ∷ Feed ∷ Token false marked ∷ []) ≡ true
after_a_comment = refl

below_a_line : may_follow Line (Token false marked ∷ []) ≡ true
below_a_line = refl

nul_below_a_line : may_follow Line (Token false (97 ∷ 0 ∷ []) ∷ []) ≡ false
nul_below_a_line = refl

nul_in_a_comment : may_follow Nothing (Note (59 ∷ 0 ∷ []) ∷ []) ≡ true
nul_in_a_comment = refl
