-- Products of numbers of 32 bits, and that their sums and differences fit 64.
use Rattle.std.proofs.Common.{◌≡◌, ℕ, suc, ◌*◌, ◌≤◌, ℤ, pos, negsuc, ◌+ℤ◌, ◌-ℤ◌, ◌*ℤ◌, neg_ℤ, nat_abs, ◌≤ℤ◌, sym, ap, ◌∙◌, subst, mul-le-mul, arith, w32, w64, SFits, to_z, of_z}
use lib.Signed.{nat_abs-le}
use Rattle.std.proofs.lemmas.Int.{to_z-of_z, ints}
use Rattle.plane.proofs.Order.{abs_mul_le}
use Rattle.plane.proofs.Laws.{sizes}

-- the greatest product of two numbers of 32 bits is 2^62
pub product_below : (a b : ℤ) → SFits w32 a → SFits w32 b → nat_abs (a *ℤ b) ≤ 4611686018427387904
product_below a b f g = abs_mul_le a b 2147483648 2147483648 (nat_abs-le a f.sfits) (nat_abs-le b g.sfits)

neg_above : (n : ℕ) → n ≤ 4611686016279904256 → negsuc 4611686016279904255 ≤ℤ neg_ℤ (pos n)
neg_above n h = omega (arith, ints)

-- and the least is 2^31 above -2^62, so that no difference of two such products passes 64 bits
pub product_above : (a b : ℤ) → SFits w32 a → SFits w32 b → negsuc 4611686016279904255 ≤ℤ (a *ℤ b)
product_above (pos a) (pos b) f g = omega (arith, ints)
product_above (pos a) (negsuc b) f g =
    let l : a ≤ 2147483647 = omega (arith, f.sfits) in
    let m : suc b ≤ 2147483648 = omega (arith, g.sfits) in
    neg_above (a * suc b) (mul-le-mul l m)
product_above (negsuc a) (pos b) f g =
    let l : suc a ≤ 2147483648 = omega (arith, f.sfits) in
    let m : b ≤ 2147483647 = omega (arith, g.sfits) in
    neg_above (suc a * b) (mul-le-mul l m)
product_above (negsuc a) (negsuc b) f g = omega (arith, ints)

pub product_fits : (a b : ℤ) → SFits w32 a → SFits w32 b → SFits w64 (a *ℤ b)
product_fits a b f g = omega (arith, sizes, product_below a b f g)

pub difference_fits : (a b c d : ℤ) → SFits w32 a → SFits w32 b → SFits w32 c → SFits w32 d → SFits w64 (a *ℤ b -ℤ c *ℤ d)
difference_fits a b c d f g h k = omega (arith, sizes, product_below a b f g, product_above a b f g, product_below c d h k, product_above c d h k)

-- a sum of products whose first factors are at most 2,000,000 in size
pub sum_fits : (a b c d : ℤ) → nat_abs a ≤ 2000000 → SFits w32 b → nat_abs c ≤ 2000000 → SFits w32 d → SFits w64 (a *ℤ b +ℤ c *ℤ d)
sum_fits a b c d f g h k = omega (arith, sizes, abs_mul_le a b 2000000 2147483648 f (nat_abs-le b g.sfits), abs_mul_le c d 2000000 2147483648 h (nat_abs-le d k.sfits))

-- what a call of `times` gives, from the bits of its arguments
product_read : (a b t : ℤ) → SFits w32 a → SFits w32 b → t ≡ to_z w32 (of_z w32 a) *ℤ to_z w32 (of_z w32 b) → t ≡ a *ℤ b
product_read a b t f g e = e ∙ (λ i. to_z-of_z w32 a f i *ℤ to_z-of_z w32 b g i)

-- a number that is read as one that fits
pub fits_read : (s x : ℤ) → s ≡ x → SFits w64 x → SFits w64 s
fits_read s x e f = subst (SFits w64) (sym e) f

pub value_read : (s x : ℤ) → s ≡ x → SFits w64 x → to_z w64 (of_z w64 s) ≡ x
value_read s x e f = ap (λ (z : ℤ). to_z w64 (of_z w64 z)) e ∙ to_z-of_z w64 x f

-- two products under an operation, from what two calls of `times` gave, as the code's numbers hold it
pub products_read : (op : ℤ → ℤ → ℤ) (a b c d s t : ℤ) → SFits w32 a → SFits w32 b → SFits w32 c → SFits w32 d → s ≡ to_z w32 (of_z w32 a) *ℤ to_z w32 (of_z w32 b) → t ≡ to_z w32 (of_z w32 c) *ℤ to_z w32 (of_z w32 d) → op (to_z w64 (of_z w64 s)) (to_z w64 (of_z w64 t)) ≡ op (a *ℤ b) (c *ℤ d)
products_read op a b c d s t fa fb fc fd e f = (λ i. op (value_read s (a *ℤ b) (product_read a b s fa fb e) (product_fits a b fa fb) i) (value_read t (c *ℤ d) (product_read c d t fc fd f) (product_fits c d fc fd) i))
