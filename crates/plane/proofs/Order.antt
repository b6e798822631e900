-- The order of the integers and the product. `le_by` and `lt_by` take a certificate: what the right side is more than the left, and why that is not negative.
use Rattle.std.proofs.Common.{◌≡◌, ℕ, zero, suc, ◌*◌, ◌≤◌, Bool, true, false, ◌⊎◌, [], ◌∷◌, ℤ, pos, negsuc, ◌+ℤ◌, ◌-ℤ◌, ◌*ℤ◌, neg_ℤ, nat_abs, ◌≤ℤ◌, ◌<ℤ◌, refl, inl, inr, le_trans, mul-le-mul_right, mul-le-mul_left, arith}
use lib.Signed.{lt_z, clash_ℤ}
use borrow.Author.Differences.{ints}
use Rattle.plane.proofs.Laws.{lin}
use Rattle.plane.proofs.Ring.{ring, reads}

pub lt_or_le : (a b : ℤ) → (a <ℤ b) ⊎ (b ≤ℤ a)
lt_or_le a b = go (lt_z a b) refl
  where
    go : (t : Bool) → lt_z a b ≡ t → (a <ℤ b) ⊎ (b ≤ℤ a)
    go true e = inl (omega (arith, ints))
    go false e = inr (omega (arith, ints))

pub le_by : {x y : ℤ} (z : ℤ) → pos 0 ≤ℤ z → y -ℤ x ≡ z → x ≤ℤ y
le_by {x} {y} z h e = omega (arith, lin)

pub lt_by : {x y : ℤ} (z : ℤ) → pos 0 <ℤ z → y -ℤ x ≡ z → x <ℤ y
lt_by {x} {y} z h e = omega (arith, lin)

pub eq_by : {x y : ℤ} (z : ℤ) → z ≡ pos 0 → y -ℤ x ≡ z → x ≡ y
eq_by {x} {y} z h e = omega (arith, lin)

pub le_antisym : {a b : ℤ} → a ≤ℤ b → b ≤ℤ a → a ≡ b
le_antisym {a} {b} h k = omega (arith, lin)

-- what b is more than a
pub diff≥0 : {a b : ℤ} → a ≤ℤ b → pos 0 ≤ℤ (b -ℤ a)
diff≥0 {a} {b} h = omega (arith, lin)

pub diff>0 : {a b : ℤ} → a <ℤ b → pos 0 <ℤ (b -ℤ a)
diff>0 {a} {b} h = omega (arith, lin)

pub mul≥0 : {a b : ℤ} → pos 0 ≤ℤ a → pos 0 ≤ℤ b → pos 0 ≤ℤ (a *ℤ b)
mul≥0 {a = pos n} {b = pos m} h k = omega (arith, ints)
mul≥0 {a = pos n} {b = negsuc m} h k = absurd k.le
mul≥0 {a = negsuc n} {b} h k = absurd h.le

pub mul>0 : {a b : ℤ} → pos 0 <ℤ a → pos 0 <ℤ b → pos 0 <ℤ (a *ℤ b)
mul>0 {a = pos zero} {b} h k = absurd h.lt
mul>0 {a = pos (suc n)} {b = pos zero} h k = absurd k.lt
mul>0 {a = pos (suc n)} {b = pos (suc m)} h k = omega (arith, ints)
mul>0 {a = pos (suc n)} {b = negsuc m} h k = absurd k.lt
mul>0 {a = negsuc n} {b} h k = absurd h.lt

pub add≥0 : {a b : ℤ} → pos 0 ≤ℤ a → pos 0 ≤ℤ b → pos 0 ≤ℤ (a +ℤ b)
add≥0 {a} {b} h k = omega (arith, lin)

pub add>0 : {a b : ℤ} → pos 0 ≤ℤ a → pos 0 <ℤ b → pos 0 <ℤ (a +ℤ b)
add>0 {a} {b} h k = omega (arith, lin)

pub square≥0 : (a : ℤ) → pos 0 ≤ℤ (a *ℤ a)
square≥0 (pos n) = omega (arith, ints)
square≥0 (negsuc n) = omega (arith, ints)

pub square>0 : (a : ℤ) → ¬ (a ≡ pos 0) → pos 0 <ℤ (a *ℤ a)
square>0 (pos zero) n = absurd (n refl)
square>0 (pos (suc m)) n = omega (arith, ints)
square>0 (negsuc m) n = omega (arith, ints)

pub nat≥0 : (n : ℕ) → pos 0 ≤ℤ pos n
nat≥0 n = omega (arith, lin)

-- a factor that is not negative keeps the order
pub le_mul : (c : ℤ) {a b : ℤ} → pos 0 ≤ℤ c → a ≤ℤ b → (c *ℤ a) ≤ℤ (c *ℤ b)
le_mul c {a} {b} h k = le_by (c *ℤ (b -ℤ a)) (mul≥0 h (diff≥0 k)) (ring (a ∷ b ∷ c ∷ []) (search reads depth 9) refl)

pub lt_mul : (c : ℤ) {a b : ℤ} → pos 0 <ℤ c → a <ℤ b → (c *ℤ a) <ℤ (c *ℤ b)
lt_mul c {a} {b} h k = lt_by (c *ℤ (b -ℤ a)) (mul>0 h (diff>0 k)) (ring (a ∷ b ∷ c ∷ []) (search reads depth 9) refl)

-- and one that is negative or 0 turns it
pub le_mul_neg : (c : ℤ) {a b : ℤ} → c ≤ℤ pos 0 → a ≤ℤ b → (c *ℤ b) ≤ℤ (c *ℤ a)
le_mul_neg c {a} {b} h k =
    le_by ((pos 0 -ℤ c) *ℤ (b -ℤ a)) (mul≥0 (diff≥0 h) (diff≥0 k)) (ring (a ∷ b ∷ c ∷ []) (search reads depth 9) refl)

-- a positive factor is cancelled
pub le_cancel : (c : ℤ) {a b : ℤ} → pos 0 <ℤ c → (c *ℤ a) ≤ℤ (c *ℤ b) → a ≤ℤ b
le_cancel c {a} {b} h k = elim (lt_or_le b a) [ inl l ↦ clash_ℤ (lt_mul c h l) k | inr l ↦ l ]

pub lt_cancel : (c : ℤ) {a b : ℤ} → pos 0 ≤ℤ c → (c *ℤ a) <ℤ (c *ℤ b) → a <ℤ b
lt_cancel c {a} {b} h k = elim (lt_or_le a b) [ inl l ↦ l | inr l ↦ clash_ℤ k (le_mul c h l) ]

pub eq_cancel : (c : ℤ) {a b : ℤ} → pos 0 <ℤ c → c *ℤ a ≡ c *ℤ b → a ≡ b
eq_cancel c {a} {b} h e = le_antisym (le_cancel c h (omega (arith, lin))) (le_cancel c h (omega (arith, lin)))

-- the factors of a positive product have one sign, and a product is 0 at a factor 0 alone
pub sign_same : {a b : ℤ} → pos 0 <ℤ (a *ℤ b) → pos 0 <ℤ a → pos 0 <ℤ b
sign_same {a} {b} h k = elim (lt_or_le (pos 0) b) [ inl l ↦ l | inr l ↦ clash_ℤ h (le_by (a *ℤ neg_ℤ b) (mul≥0 {a = a} {b = neg_ℤ b} (omega (arith, lin)) (omega (arith, lin))) (ring (a ∷ b ∷ []) (search reads depth 9) refl)) ]

pub zero_product : (a b : ℤ) → a *ℤ b ≡ pos 0 → (a ≡ pos 0) ⊎ (b ≡ pos 0)
zero_product (pos zero) b e = inl refl
zero_product (pos (suc n)) (pos zero) e = inr refl
zero_product (pos (suc n)) (pos (suc m)) e = absurd (omega (arith, ints))
zero_product (pos (suc n)) (negsuc m) e = absurd (omega (arith, ints))
zero_product (negsuc n) (pos zero) e = inr refl
zero_product (negsuc n) (pos (suc m)) e = absurd (omega (arith, ints))
zero_product (negsuc n) (negsuc m) e = absurd (omega (arith, ints))

-- ---- sizes
abs_neg : (n : ℕ) → nat_abs (neg_ℤ (pos n)) ≡ n
abs_neg zero = refl
abs_neg (suc n) = refl

pub abs_mul : (a b : ℤ) → nat_abs (a *ℤ b) ≡ nat_abs a * nat_abs b
abs_mul (pos a) (pos b) = refl
abs_mul (pos a) (negsuc b) = abs_neg (a * suc b)
abs_mul (negsuc a) (pos b) = abs_neg (suc a * b)
abs_mul (negsuc a) (negsuc b) = refl

pub abs_mul_le : (a b : ℤ) (A B : ℕ) → nat_abs a ≤ A → nat_abs b ≤ B → nat_abs (a *ℤ b) ≤ A * B
abs_mul_le a b A B h k = rw (abs_mul a b) (le_trans (mul-le-mul_right (nat_abs b) h) (mul-le-mul_left A k))
