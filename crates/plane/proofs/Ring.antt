-- Equations of polynomials over the integers, checked by computing. A side is written as an `Ex`; `norm` brings it to a list of terms, each a coefficient and a sorted list of variables, in one order.
use Rattle.std.proofs.Common.{◌≡◌, ℕ, zero, suc, ◌+◌, ◌*◌, T, List, [], ◌∷◌, ℤ, pos, negsuc, ◌+ℤ◌, ◌-ℤ◌, ◌*ℤ◌, neg_ℤ, sym, refl, ap, ◌∙◌, subst, ap₂, arith, eqb→eq}
use Prim.Native.Nat.{compare, Ordering}
use lib.IntN.{+ℤ_assoc, +ℤ_idl, +ℤ_idr, neg_ℤ-+ℤ, zero-*ℤ, *ℤ-zero}
use lib.Dec.{compare_is_eq}
use borrow.Author.Differences.{ints}
use Rattle.plane.proofs.Laws.{*ℤ_assoc, *ℤ_left_comm, +ℤ-*ℤ, *ℤ-+ℤ, neg_ℤ-*ℤ, one-*ℤ, *ℤ_one}

infixl 6 ◌⊕◌ ◌⊖◌
infixl 7 ◌⊗◌
infixr 8 ⊝◌
pub data Ex : Type 0 where
  v : ℕ → Ex
  k : ℤ → Ex
  ◌⊕◌ : Ex → Ex → Ex
  ◌⊖◌ : Ex → Ex → Ex
  ◌⊗◌ : Ex → Ex → Ex
  ⊝◌ : Ex → Ex

abbrev pub at : List ℤ → ℕ → ℤ
at [] i = pos 0
at (x ∷ ρ) zero = x
at (x ∷ ρ) (suc i) = at ρ i

-- what an expression means, with the variables' values
abbrev pub den : Ex → List ℤ → ℤ
den (v i) ρ = at ρ i
den (k z) ρ = z
den (a ⊕ b) ρ = den a ρ +ℤ den b ρ
den (a ⊖ b) ρ = den a ρ -ℤ den b ρ
den (a ⊗ b) ρ = den a ρ *ℤ den b ρ
den (⊝ a) ρ = neg_ℤ (den a ρ)

-- a product of variables, sorted
abbrev pub Mono : Type 0
Mono = List ℕ

pub data Poly : Type 0 where
  nil : Poly
  term : ℤ → List ℕ → Poly → Poly

abbrev pub put : ℕ → List ℕ → (List ℕ → List ℕ) → List ℕ → List ℕ
put x xs rest [] = x ∷ xs
put x xs rest (y ∷ ys) = elim (compare y x) [ Ordering.lt ↦ y ∷ put x xs rest ys | Ordering.eq ↦ x ∷ rest (y ∷ ys) | Ordering.gt ↦ x ∷ rest (y ∷ ys) ]

abbrev pub join : List ℕ → List ℕ → List ℕ
join [] ys = ys
join (x ∷ xs) ys = put x xs (join xs) ys

-- the end of a list counts as beyond every variable
abbrev pub order : List ℕ → List ℕ → Ordering
order [] [] = Ordering.eq
order [] (y ∷ ys) = Ordering.gt
order (x ∷ xs) [] = Ordering.lt
order (x ∷ xs) (y ∷ ys) = elim (compare x y) [ Ordering.lt ↦ Ordering.lt | Ordering.eq ↦ order xs ys | Ordering.gt ↦ Ordering.gt ]

abbrev pub keep : ℤ → List ℕ → Poly → Poly
keep (pos zero) m p = p
keep (pos (suc n)) m p = term (pos (suc n)) m p
keep (negsuc n) m p = term (negsuc n) m p

abbrev pub into : ℤ → List ℕ → Poly → (Poly → Poly) → Poly → Poly
into c m p rest nil = term c m p
into c m p rest (term d n q) = elim (order m n) [ Ordering.lt ↦ term c m (rest (term d n q)) | Ordering.eq ↦ keep (c +ℤ d) m (rest q) | Ordering.gt ↦ term d n (into c m p rest q) ]

abbrev pub add : Poly → Poly → Poly
add nil q = q
add (term c m p) q = into c m p (add p) q

abbrev pub scale : ℤ → List ℕ → Poly → Poly
scale c m nil = nil
scale c m (term d n q) = term (c *ℤ d) (join m n) (scale c m q)

abbrev pub mul : Poly → Poly → Poly
mul nil q = nil
mul (term c m p) q = add (scale c m q) (mul p q)

abbrev pub minus : Poly → Poly
minus nil = nil
minus (term c m p) = term (neg_ℤ c) m (minus p)

abbrev pub norm : Ex → Poly
norm (v i) = term (pos 1) (i ∷ []) nil
norm (k z) = keep z [] nil
norm (a ⊕ b) = add (norm a) (norm b)
norm (a ⊖ b) = add (norm a) (minus (norm b))
norm (a ⊗ b) = mul (norm a) (norm b)
norm (⊝ a) = minus (norm a)

-- ---- what they mean
abbrev ev_mono : List ℤ → List ℕ → ℤ
ev_mono ρ [] = pos 1
ev_mono ρ (i ∷ m) = at ρ i *ℤ ev_mono ρ m

abbrev ev_poly : List ℤ → Poly → ℤ
ev_poly ρ nil = pos 0
ev_poly ρ (term c m p) = c *ℤ ev_mono ρ m +ℤ ev_poly ρ p

abbrev Same {ℓ} : {A : Type ℓ} → Ordering → A → A → Type ℓ
Same Ordering.lt x y = Unit
Same Ordering.eq x y = x ≡ y
Same Ordering.gt x y = Unit

put_sound : (ρ : List ℤ) (x : ℕ) (xs : List ℕ) (rest : List ℕ → List ℕ) → ((ys : List ℕ) → ev_mono ρ (rest ys) ≡ ev_mono ρ xs *ℤ ev_mono ρ ys) → (ys : List ℕ) → ev_mono ρ (put x xs rest ys) ≡ at ρ x *ℤ ev_mono ρ xs *ℤ ev_mono ρ ys
put_sound ρ x xs rest h [] = sym (*ℤ_one (at ρ x *ℤ ev_mono ρ xs))
put_sound ρ x xs rest h (y ∷ ys) = go (put_sound ρ x xs rest h ys) (compare y x)
  where
    first : ev_mono ρ (x ∷ rest (y ∷ ys)) ≡ at ρ x *ℤ ev_mono ρ xs *ℤ ev_mono ρ (y ∷ ys)
    first = ap (λ (t : ℤ). at ρ x *ℤ t) (h (y ∷ ys)) ∙ sym (*ℤ_assoc (at ρ x) (ev_mono ρ xs) (ev_mono ρ (y ∷ ys)))

    go : ev_mono ρ (put x xs rest ys) ≡ at ρ x *ℤ ev_mono ρ xs *ℤ ev_mono ρ ys → (o : Ordering) → ev_mono ρ (elim o [ Ordering.lt ↦ y ∷ put x xs rest ys | Ordering.eq ↦ x ∷ rest (y ∷ ys) | Ordering.gt ↦ x ∷ rest (y ∷ ys) ]) ≡ at ρ x *ℤ ev_mono ρ xs *ℤ ev_mono ρ (y ∷ ys)
    go e Ordering.lt = ap (λ (t : ℤ). at ρ y *ℤ t) e ∙ *ℤ_left_comm (at ρ y) (at ρ x *ℤ ev_mono ρ xs) (ev_mono ρ ys)
    go e Ordering.eq = first
    go e Ordering.gt = first

join_sound : (ρ : List ℤ) (xs ys : List ℕ) → ev_mono ρ (join xs ys) ≡ ev_mono ρ xs *ℤ ev_mono ρ ys
join_sound ρ [] ys = sym (one-*ℤ (ev_mono ρ ys))
join_sound ρ (x ∷ xs) ys = put_sound ρ x xs (join xs) (join_sound ρ xs) ys

-- two products that compare as equal are equal
compare_same : (o : Ordering) (x y : ℕ) → compare x y ≡ o → Same o x y
compare_same Ordering.lt x y e = tt
compare_same Ordering.eq x y e = eqb→eq x y (subst (λ (t : Ordering). T (compare_is_eq t)) (sym e) tt)
compare_same Ordering.gt x y e = tt

order_same : (xs ys : List ℕ) → Same (order xs ys) xs ys
order_same [] [] = refl
order_same [] (y ∷ ys) = tt
order_same (x ∷ xs) [] = tt
order_same (x ∷ xs) (y ∷ ys) = go (order_same xs ys) (compare x y) (compare_same (compare x y) x y refl)
  where
    deeper : (o : Ordering) → x ≡ y → Same o xs ys → Same o (x ∷ xs) (y ∷ ys)
    deeper Ordering.lt e s = tt
    deeper Ordering.eq e s = ap₂ ◌∷◌ e s
    deeper Ordering.gt e s = tt

    go : Same (order xs ys) xs ys → (o : Ordering) → Same o x y → Same (elim o [ Ordering.lt ↦ Ordering.lt | Ordering.eq ↦ order xs ys | Ordering.gt ↦ Ordering.gt ]) (x ∷ xs) (y ∷ ys)
    go s Ordering.lt e = tt
    go s Ordering.eq e = deeper (order xs ys) e s
    go s Ordering.gt e = tt

keep_sound : (ρ : List ℤ) (c : ℤ) (m : List ℕ) (p : Poly) → ev_poly ρ (keep c m p) ≡ c *ℤ ev_mono ρ m +ℤ ev_poly ρ p
keep_sound ρ (pos zero) m p = sym (ap (λ (t : ℤ). t +ℤ ev_poly ρ p) (zero-*ℤ (ev_mono ρ m)) ∙ +ℤ_idl (ev_poly ρ p))
keep_sound ρ (pos (suc n)) m p = refl
keep_sound ρ (negsuc n) m p = refl

+ℤ_left_comm : (a b c : ℤ) → a +ℤ (b +ℤ c) ≡ b +ℤ (a +ℤ c)
+ℤ_left_comm a b c = omega (arith, ints)

swap4 : (a b c d : ℤ) → (a +ℤ b) +ℤ (c +ℤ d) ≡ (a +ℤ c) +ℤ (b +ℤ d)
swap4 a b c d = omega (arith, ints)

into_sound : (ρ : List ℤ) (c : ℤ) (m : List ℕ) (p : Poly) (rest : Poly → Poly) → ((q : Poly) → ev_poly ρ (rest q) ≡ ev_poly ρ p +ℤ ev_poly ρ q) → (q : Poly) → ev_poly ρ (into c m p rest q) ≡ c *ℤ ev_mono ρ m +ℤ ev_poly ρ p +ℤ ev_poly ρ q
into_sound ρ c m p rest h nil = sym (+ℤ_idr (c *ℤ ev_mono ρ m +ℤ ev_poly ρ p))
into_sound ρ c m p rest h (term d n q) = go (into_sound ρ c m p rest h q) (order m n) (order_same m n)
  where
    go : ev_poly ρ (into c m p rest q) ≡ c *ℤ ev_mono ρ m +ℤ ev_poly ρ p +ℤ ev_poly ρ q → (o : Ordering) → Same o m n → ev_poly ρ (elim o [ Ordering.lt ↦ term c m (rest (term d n q)) | Ordering.eq ↦ keep (c +ℤ d) m (rest q) | Ordering.gt ↦ term d n (into c m p rest q) ]) ≡ c *ℤ ev_mono ρ m +ℤ ev_poly ρ p +ℤ ev_poly ρ (term d n q)
    go e Ordering.lt s = ap (λ (t : ℤ). c *ℤ ev_mono ρ m +ℤ t) (h (term d n q)) ∙ sym (+ℤ_assoc (c *ℤ ev_mono ρ m) (ev_poly ρ p) (ev_poly ρ (term d n q)))
    go e Ordering.eq s = keep_sound ρ (c +ℤ d) m (rest q) ∙ ap₂ ◌+ℤ◌ (+ℤ-*ℤ c d (ev_mono ρ m)) (h q) ∙ swap4 (c *ℤ ev_mono ρ m) (d *ℤ ev_mono ρ m) (ev_poly ρ p) (ev_poly ρ q) ∙ ap (λ (t : List ℕ). c *ℤ ev_mono ρ m +ℤ ev_poly ρ p +ℤ (d *ℤ ev_mono ρ t +ℤ ev_poly ρ q)) s
    go e Ordering.gt s = ap (λ (t : ℤ). d *ℤ ev_mono ρ n +ℤ t) e ∙ +ℤ_left_comm (d *ℤ ev_mono ρ n) (c *ℤ ev_mono ρ m +ℤ ev_poly ρ p) (ev_poly ρ q)

add_sound : (ρ : List ℤ) (p q : Poly) → ev_poly ρ (add p q) ≡ ev_poly ρ p +ℤ ev_poly ρ q
add_sound ρ nil q = sym (+ℤ_idl (ev_poly ρ q))
add_sound ρ (term c m p) q = into_sound ρ c m p (add p) (add_sound ρ p) q

regroup : (c d m n : ℤ) → (c *ℤ d) *ℤ (m *ℤ n) ≡ (c *ℤ m) *ℤ (d *ℤ n)
regroup c d m n = *ℤ_assoc c d (m *ℤ n) ∙ ap (λ (t : ℤ). c *ℤ t) (*ℤ_left_comm d m n) ∙ sym (*ℤ_assoc c m (d *ℤ n))

scale_sound : (ρ : List ℤ) (c : ℤ) (m : List ℕ) (q : Poly) → ev_poly ρ (scale c m q) ≡ c *ℤ ev_mono ρ m *ℤ ev_poly ρ q
scale_sound ρ c m nil = sym (*ℤ-zero (c *ℤ ev_mono ρ m))
scale_sound ρ c m (term d n q) = ap₂ ◌+ℤ◌ (ap (λ (t : ℤ). c *ℤ d *ℤ t) (join_sound ρ m n) ∙ regroup c d (ev_mono ρ m) (ev_mono ρ n)) (scale_sound ρ c m q) ∙ sym (*ℤ-+ℤ (c *ℤ ev_mono ρ m) (d *ℤ ev_mono ρ n) (ev_poly ρ q))

mul_sound : (ρ : List ℤ) (p q : Poly) → ev_poly ρ (mul p q) ≡ ev_poly ρ p *ℤ ev_poly ρ q
mul_sound ρ nil q = sym (zero-*ℤ (ev_poly ρ q))
mul_sound ρ (term c m p) q = add_sound ρ (scale c m q) (mul p q) ∙ ap₂ ◌+ℤ◌ (scale_sound ρ c m q) (mul_sound ρ p q) ∙ sym (+ℤ-*ℤ (c *ℤ ev_mono ρ m) (ev_poly ρ p) (ev_poly ρ q))

minus_sound : (ρ : List ℤ) (p : Poly) → ev_poly ρ (minus p) ≡ neg_ℤ (ev_poly ρ p)
minus_sound ρ nil = refl
minus_sound ρ (term c m p) = ap₂ ◌+ℤ◌ (neg_ℤ-*ℤ c (ev_mono ρ m)) (minus_sound ρ p) ∙ sym (neg_ℤ-+ℤ (c *ℤ ev_mono ρ m) (ev_poly ρ p))

norm_sound : (ρ : List ℤ) (e : Ex) → ev_poly ρ (norm e) ≡ den e ρ
norm_sound ρ (v i) = +ℤ_idr (pos 1 *ℤ (at ρ i *ℤ pos 1)) ∙ one-*ℤ (at ρ i *ℤ pos 1) ∙ *ℤ_one (at ρ i)
norm_sound ρ (k z) = keep_sound ρ z [] nil ∙ +ℤ_idr (z *ℤ pos 1) ∙ *ℤ_one z
norm_sound ρ (a ⊕ b) = add_sound ρ (norm a) (norm b) ∙ ap₂ ◌+ℤ◌ (norm_sound ρ a) (norm_sound ρ b)
norm_sound ρ (a ⊖ b) = add_sound ρ (norm a) (minus (norm b)) ∙ ap₂ ◌+ℤ◌ (norm_sound ρ a) (minus_sound ρ (norm b) ∙ ap neg_ℤ (norm_sound ρ b))
norm_sound ρ (a ⊗ b) = mul_sound ρ (norm a) (norm b) ∙ ap₂ ◌*ℤ◌ (norm_sound ρ a) (norm_sound ρ b)
norm_sound ρ (⊝ a) = minus_sound ρ (norm a) ∙ ap neg_ℤ (norm_sound ρ a)

-- the solver, with both sides written out as expressions; the last argument is `refl`
pub ring_ex : (ρ : List ℤ) (l r : Ex) → norm l ≡ norm r → den l ρ ≡ den r ρ
ring_ex ρ l r e = sym (norm_sound ρ l) ∙ ap (ev_poly ρ) e ∙ norm_sound ρ r

-- ---- a term of ℤ, read as an expression: `Is ρ x` is an expression that means x, and `search reads` finds it
pub data In : List ℤ → ℤ → Type 0 where
  here : {x : ℤ} {ρ : List ℤ} → In (x ∷ ρ) x
  there : {x y : ℤ} {ρ : List ℤ} → In ρ x → In (y ∷ ρ) x

pub data Is (ρ : List ℤ) : ℤ → Type 0 where
  is_add : {x y : ℤ} → Is ρ x → Is ρ y → Is ρ (x +ℤ y)
  is_mul : {x y : ℤ} → Is ρ x → Is ρ y → Is ρ (x *ℤ y)
  is_neg : {x : ℤ} → Is ρ x → Is ρ (neg_ℤ x)
  is_pos : {n : ℕ} → compare n n ≡ Ordering.eq → Is ρ (pos n)
  is_pos_add : {m n : ℕ} → Is ρ (pos m) → Is ρ (pos n) → Is ρ (pos (m + n))
  is_pos_mul : {m n : ℕ} → Is ρ (pos m) → Is ρ (pos n) → Is ρ (pos (m * n))
  is_negsuc : {n : ℕ} → compare n n ≡ Ordering.eq → Is ρ (negsuc n)
  is_var : {x : ℤ} → In ρ x → Is ρ x

abbrev pub place : {ρ : List ℤ} {x : ℤ} → In ρ x → ℕ
place here = 0
place (there i) = suc (place i)

abbrev pub ex : {ρ : List ℤ} {x : ℤ} → Is ρ x → Ex
ex (is_add a b) = ex a ⊕ ex b
ex (is_mul a b) = ex a ⊗ ex b
ex (is_neg a) = ⊝ ex a
ex (is_pos {n = n} c) = k (pos n)
ex (is_pos_add a b) = ex a ⊕ ex b
ex (is_pos_mul a b) = ex a ⊗ ex b
ex (is_negsuc {n = n} c) = k (negsuc n)
ex (is_var i) = v (place i)

place_at : {ρ : List ℤ} {x : ℤ} (i : In ρ x) → at ρ (place i) ≡ x
place_at here = refl
place_at (there i) = place_at i

ex_is : {ρ : List ℤ} {x : ℤ} (a : Is ρ x) → den (ex a) ρ ≡ x
ex_is (is_add a b) = ap₂ ◌+ℤ◌ (ex_is a) (ex_is b)
ex_is (is_mul a b) = ap₂ ◌*ℤ◌ (ex_is a) (ex_is b)
ex_is (is_neg a) = ap neg_ℤ (ex_is a)
ex_is (is_pos {n = n} c) = refl
ex_is (is_pos_add a b) = ap₂ ◌+ℤ◌ (ex_is a) (ex_is b)
ex_is (is_pos_mul a b) = ap₂ ◌*ℤ◌ (ex_is a) (ex_is b)
ex_is (is_negsuc {n = n} c) = refl
ex_is (is_var i) = place_at i

-- both sides of an equation, read
pub data Sides (ρ : List ℤ) : ℤ → ℤ → Type 0 where
  sides : {x y : ℤ} → Is ρ x → Is ρ y → Sides ρ x y

abbrev pub Agree : {ρ : List ℤ} {x y : ℤ} → Sides ρ x y → Type 0
Agree (sides l r) = norm (ex l) ≡ norm (ex r)

-- THE SOLVER. ρ lists the unknowns, each a term of any form. Write `ring (a ∷ b ∷ []) (search reads depth 20) refl`
pub ring : (ρ : List ℤ) {x y : ℤ} (s : Sides ρ x y) → Agree s → x ≡ y
ring ρ (sides l r) e = sym (ex_is l) ∙ ring_ex ρ (ex l) (ex r) e ∙ ex_is r

-- an unknown, by its place in the list: a rule for each place costs `search` less than a walk along the list
abbrev pub is0 : {x : ℤ} {ρ : List ℤ} → Is (x ∷ ρ) x
is0 = is_var here

abbrev pub is1 : {x y0 : ℤ} {ρ : List ℤ} → Is (y0 ∷ x ∷ ρ) x
is1 = is_var (there here)

abbrev pub is2 : {x y0 y1 : ℤ} {ρ : List ℤ} → Is (y0 ∷ y1 ∷ x ∷ ρ) x
is2 = is_var (there (there here))

abbrev pub is3 : {x y0 y1 y2 : ℤ} {ρ : List ℤ} → Is (y0 ∷ y1 ∷ y2 ∷ x ∷ ρ) x
is3 = is_var (there (there (there here)))

abbrev pub is4 : {x y0 y1 y2 y3 : ℤ} {ρ : List ℤ} → Is (y0 ∷ y1 ∷ y2 ∷ y3 ∷ x ∷ ρ) x
is4 = is_var (there (there (there (there here))))

abbrev pub is5 : {x y0 y1 y2 y3 y4 : ℤ} {ρ : List ℤ} → Is (y0 ∷ y1 ∷ y2 ∷ y3 ∷ y4 ∷ x ∷ ρ) x
is5 = is_var (there (there (there (there (there here)))))

abbrev pub is6 : {x y0 y1 y2 y3 y4 y5 : ℤ} {ρ : List ℤ} → Is (y0 ∷ y1 ∷ y2 ∷ y3 ∷ y4 ∷ y5 ∷ x ∷ ρ) x
is6 = is_var (there (there (there (there (there (there here))))))

abbrev pub is7 : {x y0 y1 y2 y3 y4 y5 y6 : ℤ} {ρ : List ℤ} → Is (y0 ∷ y1 ∷ y2 ∷ y3 ∷ y4 ∷ y5 ∷ y6 ∷ x ∷ ρ) x
is7 = is_var (there (there (there (there (there (there (there here)))))))

abbrev pub is8 : {x y0 y1 y2 y3 y4 y5 y6 y7 : ℤ} {ρ : List ℤ} → Is (y0 ∷ y1 ∷ y2 ∷ y3 ∷ y4 ∷ y5 ∷ y6 ∷ y7 ∷ x ∷ ρ) x
is8 = is_var (there (there (there (there (there (there (there (there here))))))))

abbrev pub is9 : {x y0 y1 y2 y3 y4 y5 y6 y7 y8 : ℤ} {ρ : List ℤ} → Is (y0 ∷ y1 ∷ y2 ∷ y3 ∷ y4 ∷ y5 ∷ y6 ∷ y7 ∷ y8 ∷ x ∷ ρ) x
is9 = is_var (there (there (there (there (there (there (there (there (there here)))))))))

abbrev pub is10 : {x y0 y1 y2 y3 y4 y5 y6 y7 y8 y9 : ℤ} {ρ : List ℤ} → Is (y0 ∷ y1 ∷ y2 ∷ y3 ∷ y4 ∷ y5 ∷ y6 ∷ y7 ∷ y8 ∷ y9 ∷ x ∷ ρ) x
is10 = is_var (there (there (there (there (there (there (there (there (there (there here))))))))))

abbrev pub is11 : {x y0 y1 y2 y3 y4 y5 y6 y7 y8 y9 y10 : ℤ} {ρ : List ℤ} → Is (y0 ∷ y1 ∷ y2 ∷ y3 ∷ y4 ∷ y5 ∷ y6 ∷ y7 ∷ y8 ∷ y9 ∷ y10 ∷ x ∷ ρ) x
is11 = is_var (there (there (there (there (there (there (there (there (there (there (there here)))))))))))

abbrev pub is12 : {x y0 y1 y2 y3 y4 y5 y6 y7 y8 y9 y10 y11 : ℤ} {ρ : List ℤ} → Is (y0 ∷ y1 ∷ y2 ∷ y3 ∷ y4 ∷ y5 ∷ y6 ∷ y7 ∷ y8 ∷ y9 ∷ y10 ∷ y11 ∷ x ∷ ρ) x
is12 = is_var (there (there (there (there (there (there (there (there (there (there (there (there here))))))))))))

abbrev pub is13 : {x y0 y1 y2 y3 y4 y5 y6 y7 y8 y9 y10 y11 y12 : ℤ} {ρ : List ℤ} → Is (y0 ∷ y1 ∷ y2 ∷ y3 ∷ y4 ∷ y5 ∷ y6 ∷ y7 ∷ y8 ∷ y9 ∷ y10 ∷ y11 ∷ y12 ∷ x ∷ ρ) x
is13 = is_var (there (there (there (there (there (there (there (there (there (there (there (there (there here)))))))))))))

abbrev pub is14 : {x y0 y1 y2 y3 y4 y5 y6 y7 y8 y9 y10 y11 y12 y13 : ℤ} {ρ : List ℤ} → Is (y0 ∷ y1 ∷ y2 ∷ y3 ∷ y4 ∷ y5 ∷ y6 ∷ y7 ∷ y8 ∷ y9 ∷ y10 ∷ y11 ∷ y12 ∷ y13 ∷ x ∷ ρ) x
is14 = is_var (there (there (there (there (there (there (there (there (there (there (there (there (there (there here))))))))))))))

abbrev pub is15 : {x y0 y1 y2 y3 y4 y5 y6 y7 y8 y9 y10 y11 y12 y13 y14 : ℤ} {ρ : List ℤ} → Is (y0 ∷ y1 ∷ y2 ∷ y3 ∷ y4 ∷ y5 ∷ y6 ∷ y7 ∷ y8 ∷ y9 ∷ y10 ∷ y11 ∷ y12 ∷ y13 ∷ y14 ∷ x ∷ ρ) x
is15 = is_var (there (there (there (there (there (there (there (there (there (there (there (there (there (there (there here)))))))))))))))

-- for `search`: at most sixteen unknowns
pub ruleset reads = (sides, is_add, is_mul, is_neg, is0, is1, is2, is3, is4, is5, is6, is7, is8, is9, is10, is11, is12, is13, is14, is15, is_pos_add, is_pos_mul, is_pos, is_negsuc)
