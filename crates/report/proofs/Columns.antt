-- What `{:<WIDTH$}` writes of a text.
use Rattle.std.proofs.Common.{◌≡◌, refl, ℕ, zero, suc, ◌-◌, ◌^◌, ◌<◌, List, length, arith, append-nil}
use Rattle.std.proofs.Padding.{take_chars_all, repeat_ascii}
use Rattle.std.specs.Fmt.{char_count, format_spec, padded, styled_text}
use Rattle.report.specs.Words.{column}
use Rattle.std.proofs.lemmas.Bool.{ne_eqb}

padded_column : (width : ℕ) (text : List ℕ) → length text < 2 ^ 64
    → padded (format_spec 32 1 0 width (2 ^ 64 - 1)) text ≡ column width text
unfolding padded
padded_column width text short =
    let after : width - char_count text - 0 ≡ width - char_count text = omega arith in
    rw (take_chars_all (2 ^ 64 - 1) text (omega arith), after, repeat_ascii _ 32 (omega arith)) refl

pub styled_column : (width : ℕ) (text : List ℕ) → length text < 2 ^ 64
    → styled_text (format_spec 32 1 0 width (2 ^ 64 - 1)) text ≡ column width text
styled_column zero text short =
    let none : zero - char_count text ≡ 0 = omega arith in
    rw (none, append-nil) refl
styled_column (suc width) text short = rw (ne_eqb (suc width) 0 (omega arith)) (padded_column (suc width) text short)
