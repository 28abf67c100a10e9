-- Worked examples of hashes.
use Rattle.std.proofs.Common.{◌≡◌, [], ◌∷◌, refl}
use Rattle.wf_sat_check.specs.Store.Index.{finished, first_step, hash_of_each, joined, mixed}

-- the first two numbers that the published splitmix64 gives from the seed 0 on
pub first_number : mixed first_step 0 ≡ 0xe220_a839_7b1d_cdaf
unfolding mixed finished
first_number = refl

pub second_number : mixed first_step 1 ≡ 0x6e78_9e6a_a1b9_65f4
unfolding mixed finished
second_number = refl

-- the hash of the clause `1 -2`
pub hash_of_first : hash_of_each (2 ∷ 5 ∷ []) ≡ 2019943054
unfolding mixed finished joined
hash_of_first = refl
