-- The text of a count of eighths of a turn, as a multiple of pi in lowest terms.
use Rattle.std.specs.Prelude.{ℕ, zero, suc, ◌%◌, ◌==◌, ℤ, pos, negsuc, List, ◌++◌, codes, int_div, nat_abs, if◌then◌else◌}
use Rattle.std.specs.Fmt.{signed_decimal}

-- a whole multiple of pi
abbrev pub multiple_text : ℤ → List ℕ
multiple_text (pos zero) = codes "0"
multiple_text (pos (suc zero)) = codes "pi"
multiple_text (negsuc zero) = codes "-pi"
multiple_text z = signed_decimal z ++ codes "*pi"

-- one count is a quarter of pi
abbrev pub eighths_text : ℤ → List ℕ
eighths_text k =
    if nat_abs k % 4 == 0 then multiple_text (int_div k (pos 4))
    else if nat_abs k % 2 == 0 then multiple_text (int_div k (pos 2)) ++ codes "/2"
    else multiple_text k ++ codes "/4"
