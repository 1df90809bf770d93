-- `cases_sip::room` has as many bytes as it says: a list of equal members is as long as their number. Assumes nothing.
use Rattle.std.proofs.Common.{◌≡◌, ℕ, length, sym}
use Rattle.std.proofs.Math.ListN.{replicate, length-replicate}
use Rattle.cases_sip.proofs.room.Goals as goal

as_many : (n : ℕ) → n ≡ length {A = ℕ} (replicate n 0)
as_many n = sym (length-replicate {A = ℕ} n 0)

pub returns : goal.returns
returns c = as_many 524288
