-- `test_calls::main` is safe: it lends the whole memory. Assumes nothing.
use mathlib.Core.Path.{◌≡◌, sym}
use Prim.Native.Nat.{ℕ}
use lib.ListN.{length, replicate, length-replicate}
use Rattle.test_calls.proofs.main.Goals as goal

-- For any length, so that the memory's is not counted out.
filled_length : (k a : ℕ) → k ≡ length (replicate k a)
filled_length k a = sym (length-replicate k a)

pub slice_bounds-read_calls-end : goal.slice_bounds-read_calls-end
slice_bounds-read_calls-end c = filled_length 1200001 0
