-- The numbers of the calls.
use Rattle.std.specs.Prelude.{ℕ}

-- the calls' numbers are below this
abbrev pub call_numbers : ℕ
call_numbers = 68
