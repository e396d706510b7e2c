-- A line has no more characters than octets were written, and its columns are moved no further.
use Rattle.std.proofs.Common.{◌≡◌, ℕ, zero, suc, ◌+◌, ◌-◌, ◌≤◌, Bool, true, false, List, [], ◌++◌, length, refl, ap, arith, length-append}
use Rattle.std.specs.Prelude.{if◌then◌else◌, replicate}
use Rattle.zone_format.specs.declared.columns.Role.{Role}
use Rattle.zone_format.specs.declared.columns.Role.TheVariants.{Ttl, Class, RecordType}
use Rattle.zone_format.specs.declared.columns.Turn.{Turn}
use Rattle.zone_format.specs.declared.columns.Turn.TheVariants.{Edge, Led, Inside, Owned, Head, Typed, Rest}
use Rattle.zone_format.specs.declared.line_state.LineState.{LineState}
use Rattle.zone_format.specs.Columns.{after_token, begins_dollar, first_column, head_after, later_column, moved_by, moved_in, next_eighth, role_of, token_column, width_of}
use Rattle.zone_format.specs.Form.{gap}
use Rattle.zone_format.specs.Writing.{LineFits, is_start, pushed_token, token_before}

eighth : (n : ℕ) → n ≤ next_eighth n
eighth n = omega arith

head_moved : (r : Role) (m : ℕ) (a b : Bool) → moved_in (head_after r m a b) ≡ m
head_moved Ttl m a b = refl
head_moved Class m a b = refl
head_moved RecordType m a b = refl

first_far : (r : Role) (e n : ℕ) → moved_by r e n ≤ (first_column r e n - 1) + n
first_far Ttl e n = omega (arith, eighth ((e + n + 2) - 31))
first_far Class e n = omega arith
first_far RecordType e n = omega arith

later_far : (r : Role) (m e n : ℕ) → m ≤ e → m ≤ (later_column r m e - 1) + n
later_far Ttl m e n h = omega arith
later_far Class m e n h = omega arith
later_far RecordType m e n h = omega arith

dollar_none : (b : Bool) → moved_in (if b then Rest else Owned) ≡ 0
dollar_none true = refl
dollar_none false = refl

moved_far : (t : Turn) (e : ℕ) (glued : Bool) (x : List ℕ) → moved_in t ≤ e → moved_in (after_token t e glued x) ≤ (token_column t e glued x - 1) + width_of x
moved_far Edge e glued x h = omega (arith, dollar_none (begins_dollar x))
moved_far Led e true x h = omega (arith, head_moved (role_of false false x) 0 false false)
moved_far Led e false x h = omega (arith, head_moved (role_of false false x) (moved_by (role_of false false x) e (width_of x)) false false, first_far (role_of false false x) e (width_of x))
moved_far Inside e glued x h = omega arith
moved_far Owned e true x h = omega (arith, head_moved (role_of false false x) 0 false false)
moved_far Owned e false x h = omega (arith, head_moved (role_of false false x) (moved_by (role_of false false x) e (width_of x)) false false, first_far (role_of false false x) e (width_of x))
moved_far (Head m a b) e true x h = omega (arith, head_moved (role_of a b x) m a b)
moved_far (Head m a b) e false x h = omega (arith, head_moved (role_of a b x) m a b, later_far (role_of a b x) m e (width_of x) h)
moved_far (Typed m) e glued x h = omega arith
moved_far Rest e glued x h = omega arith

blanks_length : (n : ℕ) → length {A = ℕ} (replicate n 32) ≡ n
blanks_length zero = refl
blanks_length (suc n) = ap suc (blanks_length n)

-- what was written is as long as the blanks before it and itself, at least
longer : (old gap : List ℕ) (n : ℕ) (x new : List ℕ) → new ≡ old ++ ((gap ++ replicate n 32) ++ x) → length old + n + length x ≤ length new
longer old gap n x new e =
    omega (arith, ap length e, length-append old ((gap ++ replicate n 32) ++ x), length-append (gap ++ replicate n 32) x, length-append gap (replicate n 32), blanks_length n)

pub token_fits : (old : List ℕ) (s : LineState) (glued : Bool) (x new : List ℕ) → width_of x ≤ length x → LineFits old s → new ≡ old ++ (token_before s glued x ++ x) → LineFits new (pushed_token s glued x)
token_fits old s glued x new w f e =
    let more = longer old (if is_start s.turn then gap 10 s.above else []) (token_column s.turn s.end glued x - (s.end + 1)) x new e in
    record { moved = moved_far s.turn s.end glued x f.moved; few = omega (arith, more, w, f.few) }
