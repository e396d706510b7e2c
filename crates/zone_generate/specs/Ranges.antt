-- The range of a directive: `start-stop` or `start-stop/step`.
use Rattle.std.specs.Prelude.{ℕ, ◌+◌, ◌-◌, ◌*◌, ◌/◌, ◌==◌, ◌||◌, nat_lt, if◌then◌else◌, List, Option, Some, None, Result, Ok, Err}
use Rattle.zone_generate.specs.Numerals.{after_octet, before_octet, has_octet, numeral_of}
use Rattle.zone_generate.specs.declared.error.GenerateErrorKind.{GenerateErrorKind}
use Rattle.zone_generate.specs.declared.error.GenerateErrorKind.TheVariants.{BadRange, LargeNumber, StartAfterStop, TooManyEntries, ZeroStep}
use Rattle.zone_generate.specs.declared.range.GenerateRange.{GenerateRange}

abbrev pub hyphen : ℕ
hyphen = 45

abbrev pub slash : ℕ
slash = 47

-- the largest number of a range
abbrev pub largest_number : ℕ
largest_number = 2147483647

-- how many numbers a range has: from the first on in steps, up to the last
abbrev pub range_count : GenerateRange → ℕ
range_count r = if (r.step == 0) || nat_lt r.last r.first then 0 else (r.last - r.first) / r.step + 1

-- the number of an index
abbrev pub number_at : GenerateRange → ℕ → Option ℕ
number_at r index = if nat_lt index (range_count r) then Some (r.first + index * r.step) else None

-- a number of a range
abbrev pub bound_of : List ℕ → Result ℕ GenerateErrorKind
bound_of text = numeral_of largest_number BadRange LargeNumber text

-- the number after the slash, or 1
abbrev pub range_step : List ℕ → Result ℕ GenerateErrorKind
range_step text = if has_octet slash text then bound_of (after_octet slash text) else Ok 1

-- the range of three numbers, or why there is none
abbrev pub range_between : ℕ → ℕ → ℕ → ℕ → Result GenerateRange GenerateErrorKind
range_between most first last step =
    if step == 0 then Err ZeroStep
    else (if nat_lt last first then Err StartAfterStop
    else (let range : GenerateRange = record { first = first; last = last; step = step } in
    if nat_lt most (range_count range) then Err TooManyEntries else Ok range))

-- the range of three numbers, or the first error
abbrev pub range_from : ℕ → Result ℕ GenerateErrorKind → Result ℕ GenerateErrorKind → Result ℕ GenerateErrorKind → Result GenerateRange GenerateErrorKind
range_from most (Err e) last step = Err e
range_from most (Ok first) (Err e) step = Err e
range_from most (Ok first) (Ok last) (Err e) = Err e
range_from most (Ok first) (Ok last) (Ok step) = range_between most first last step

-- the range that a text writes, if it has at most `most` numbers; or why it is rejected
abbrev pub range_of : ℕ → List ℕ → Result GenerateRange GenerateErrorKind
range_of most text =
    let numbers = before_octet slash text in
    if has_octet hyphen numbers then range_from most (bound_of (before_octet hyphen numbers)) (bound_of (after_octet hyphen numbers)) (range_step text)
    else Err BadRange
