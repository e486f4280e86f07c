-- What a count builds: lists, sums, and tests of the numbers below it.
use Rattle.std.specs.Prelude.{Bool, true, false, cond, ◌&&◌, ◌||◌, List, [], ◌∷◌, ◌++◌, ℕ, zero, suc, ◌+◌, ltb}

-- f 0, f 1, .. f (k - 1)
abbrev pub tab : {A : Type 0} → ℕ → (ℕ → A) → List A
tab zero f = []
tab (suc k) f = tab k f ++ (f k ∷ [])

-- the lists f 0 .. f (k - 1), one after the other
abbrev pub joined : {A : Type 0} → ℕ → (ℕ → List A) → List A
joined zero f = []
joined (suc k) f = joined k f ++ f k

-- f 0 + f 1 + .. + f (k - 1)
abbrev pub sum : ℕ → (ℕ → ℕ) → ℕ
sum zero f = 0
sum (suc k) f = sum k f + f k

-- how many of the numbers below k pass the test
abbrev pub count_below : ℕ → (ℕ → Bool) → ℕ
count_below k test = sum k (λ i. cond (test i) 1 0)

-- every number below k passes the test
abbrev pub all_below : ℕ → (ℕ → Bool) → Bool
all_below zero test = true
all_below (suc k) test = all_below k test && test k

-- some number below k passes the test
abbrev pub any_below : ℕ → (ℕ → Bool) → Bool
any_below zero test = false
any_below (suc k) test = any_below k test || test k

-- the first number below k that passes the test, and k where none does
abbrev pub first_below : ℕ → (ℕ → Bool) → ℕ
first_below zero test = 0
first_below (suc k) test = cond (ltb (first_below k test) k) (first_below k test) (cond (test k) k (suc k))
