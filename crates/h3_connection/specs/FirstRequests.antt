-- The first request streams. Their ids are 0, 4, 8 and so on (RFC 9000, section 2.1).
use Rattle.std.specs.Prelude.{ℕ, zero, suc, ◌+◌, ◌*◌, ◌/◌, Bool, true, ◌&&◌}

-- how many request streams have an id below this one
abbrev pub count_below : ℕ → ℕ
count_below id = (id + 3) / 4

-- of so many of the first request streams each one passes
abbrev pub first_pass : (ℕ → Bool) → ℕ → Bool
first_pass test zero = true
first_pass test (suc n) = test (4 * n) && first_pass test n
