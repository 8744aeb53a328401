-- What the steps of joining and freeing require and answer.
use Rattle.std.specs.Prelude.{◌≡◌, Bool, true, cond, ◌&&◌, List, ℕ, ◌-◌, ◌*◌, ◌≤◌, leb, length}
use Rattle.refusal.specs.Refusal.{accepted, short_buffer, bad_overflow}
use Rattle.overflow.specs.Count.{page_size, cell_numbers}
use Rattle.overflow.specs.Read.{pages_in, pages_right}

-- t pages, as a splitting of a value of so many bytes writes them
pub record Checked (pages : List ℕ) (t size : ℕ) : Type 0 where
  pub there : page_size * t ≤ length pages
  pub right : pages_right (t - cell_numbers) size (pages_in t pages) ≡ true

-- the refusal of a right cell, of this size and with t pages, and its pages: `read_verdict` in these terms
unfoldable pub decoded_verdict : ℕ → ℕ → List ℕ → Bool → ℕ
decoded_verdict size t pages fits =
    cond (fits && leb (page_size * t) (length pages)) (cond (pages_right (t - cell_numbers) size (pages_in t pages)) accepted bad_overflow) short_buffer
