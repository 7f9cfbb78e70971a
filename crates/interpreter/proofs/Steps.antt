-- Depth and steps. A reading that has ended took up some number of indexes, and so deep it has ended already: ending at some depth and ending after some
-- number of steps are the same. Assumes nothing.
use Prim.Native.Nat.{ℕ, zero, suc, ◌≤◌}
use native.Mathlib.Nat.{le_refl}
use native.Mathlib.Omega.{arith}
use mathlib.Core.Path.{◌≡◌, refl, ap, sym, ◌∙◌, subst}
use mathlib.Core.Logic.{◌↔◌}
use mathlib.Core.Bool.{Bool, true, false}
use mathlib.Core.List.{List, [], ◌∷◌}
use lib.Dec.{leb}
use lib.ListN.{length}
use Rattle.interpreter.specs.Trace.{Note, again, deep, long, done, missing, refused, halted, unfinished, Count, count, Trace, tr, Mode, strict, plain, Prog, write, miss, refuse, limit, call, seq, after, ask, catch, prefix, limited, then, asked, caught, Finished, exec, Key, Held, held, Entry, through, opens, afresh, is_open, opening, run}

module _ {R : Type 0} where
  abbrev pub taken_of : Trace R → ℕ
  taken_of (tr bs e ns c) = c.taken

  -- s' is s, where s has ended within n steps
  Met : ℕ → Trace R → Trace R → Type 0
  Met n s s' = Finished s → taken_of s ≤ n → s' ≡ s

  met-prefix : (n : ℕ) (bs : List ℕ) (ns : List Note) (c : Count) (s s' : Trace R) → Met n s s' → Met n (prefix bs ns c s) (prefix bs ns c s')
  unfolding Met
  met-prefix n bs ns c (tr cs done ms d) s' h f l = ap (λ (x : Trace R). prefix bs ns c x) (h tt (omega arith))
  met-prefix n bs ns c (tr cs (missing i) ms d) s' h f l = ap (λ (x : Trace R). prefix bs ns c x) (h tt (omega arith))
  met-prefix n bs ns c (tr cs (refused i) ms d) s' h f l = ap (λ (x : Trace R). prefix bs ns c x) (h tt (omega arith))
  met-prefix n bs ns c (tr cs (halted i) ms d) s' h f l = ap (λ (x : Trace R). prefix bs ns c x) (h tt (omega arith))
  met-prefix n bs ns c (tr cs unfinished ms d) s' h f l = absurd f

  met-limited : (n : ℕ) (m : Mode) (b : Bool) (x : Note) (s s' : Trace R) → Met n s s' → Met n (limited m b x s) (limited m b x s')
  unfolding Met
  met-limited n m false x s s' h = h
  met-limited n strict true x s s' h = λ f l. refl
  met-limited n plain true x s s' h = met-prefix n [] (x ∷ []) (count 0 0) s s' h

  -- what comes first took no more steps than the whole
  first : (n : ℕ) (bs : List ℕ) (ns : List Note) (c : Count) (s : Trace R) → taken_of (prefix bs ns c s) ≤ n → c.taken ≤ n
  first n bs ns c (tr cs e ms d) l = omega arith

  met-then : (n : ℕ) (s s' : Trace R) (k k' : List ℕ → Trace R) → Met n s s' → ((bs : List ℕ) → Met n (k bs) (k' bs)) → Met n (then s k) (then s' k')
  unfolding Met
  met-then n (tr bs done ns c) s' k k' h g f l =
      ap (λ (x : Trace R). then x k') (h tt (first n bs ns c (k bs) l))
      ∙ met-prefix n bs ns c (k bs) (k' bs) (g bs) f l
  met-then n (tr bs (missing i) ns c) s' k k' h g f l = ap (λ (x : Trace R). then x k') (h tt l)
  met-then n (tr bs (refused i) ns c) s' k k' h g f l = ap (λ (x : Trace R). then x k') (h tt l)
  met-then n (tr bs (halted i) ns c) s' k k' h g f l = ap (λ (x : Trace R). then x k') (h tt l)
  met-then n (tr bs unfinished ns c) s' k k' h g f l = absurd f

  met-asked : (n : ℕ) (s s' : Trace R) (k k' : List ℕ → Trace R) → Met n s s' → ((bs : List ℕ) → Met n (k bs) (k' bs)) → Met n (asked s k) (asked s' k')
  unfolding Met
  met-asked n (tr bs done ns c) s' k k' h g f l =
      ap (λ (x : Trace R). asked x k') (h tt (first n [] ns c (k bs) l))
      ∙ met-prefix n [] ns c (k bs) (k' bs) (g bs) f l
  met-asked n (tr bs (missing i) ns c) s' k k' h g f l = ap (λ (x : Trace R). asked x k') (h tt l)
  met-asked n (tr bs (refused i) ns c) s' k k' h g f l = ap (λ (x : Trace R). asked x k') (h tt l)
  met-asked n (tr bs (halted i) ns c) s' k k' h g f l = ap (λ (x : Trace R). asked x k') (h tt l)
  met-asked n (tr bs unfinished ns c) s' k k' h g f l = absurd f

  met-caught : (n : ℕ) (s s' : Trace R) (k k' : ℕ → Trace R) → Met n s s' → ((i : ℕ) → Met n (k i) (k' i)) → Met n (caught s k) (caught s' k')
  unfolding Met
  met-caught n (tr bs done ns c) s' k k' h g f l = ap (λ (x : Trace R). caught x k') (h tt l)
  met-caught n (tr bs (missing i) ns c) s' k k' h g f l =
      ap (λ (x : Trace R). caught x k') (h tt (first n bs ns c (k i) l))
      ∙ met-prefix n bs ns c (k i) (k' i) (g i) f l
  met-caught n (tr bs (refused i) ns c) s' k k' h g f l = ap (λ (x : Trace R). caught x k') (h tt l)
  met-caught n (tr bs (halted i) ns c) s' k k' h g f l = ap (λ (x : Trace R). caught x k') (h tt l)
  met-caught n (tr bs unfinished ns c) s' k k' h g f l = absurd f

  met-same : (n : ℕ) (s : Trace R) → Met n s s
  unfolding Met
  met-same n s f l = refl

  module _ {Task : Type 0} (n : ℕ) (m : Mode) (r q : Task → Trace R) (h : (t : Task) → Met n (r t) (q t)) where
    met-exec : (p : Prog R Task) → Met n (exec m r p) (exec m q p)
    unfolding exec
    met-exec (write bs) = met-same n _
    met-exec (miss i) = met-same n _
    met-exec (refuse f) = met-same n _
    met-exec (limit b i p) = met-limited n m b (long i) (exec m r p) (exec m q p) (met-exec p)
    met-exec (call t) = h t
    met-exec (seq p l) = met-then n (exec m r p) (exec m q p) (λ bs. exec m r l) (λ bs. exec m q l) (met-exec p) (λ bs. met-exec l)
    met-exec (after p f) = met-then n (exec m r p) (exec m q p) (λ bs. tr (f bs) done [] (count 0 0)) (λ bs. tr (f bs) done [] (count 0 0)) (met-exec p) (λ bs. met-same n _)
    met-exec (ask p k) = met-asked n (exec m r p) (exec m q p) (λ bs. exec m r (k bs)) (λ bs. exec m q (k bs)) (met-exec p) (λ bs. met-exec (k bs))
    met-exec (catch p k) = met-caught n (exec m r p) (exec m q p) (λ i. exec m r (k i)) (λ i. exec m q (k i)) (met-exec p) (λ i. met-exec (k i))

  module _ (same : Key → Key → Bool) where
    met-opening : (n : ℕ) (m : Mode) (k : Entry) (o : Held) (f g : Held → Trace R) → ((q : Held) → Met n (f q) (g q)) → Met n (opening same m k o f) (opening same m k o g)
    unfolding opening
    met-opening n m through o f g h = h o
    met-opening n m (opens k) o f g h =
        met-limited n m (is_open same k o.opened) (again k.index) _ _
        (met-limited n m (leb 96 (length o.opened)) (deep k.index) _ _
        (met-prefix n [] [] (count 1 0) _ _ (h (held o.chain (k ∷ o.opened)))))
    met-opening n m (afresh i) o f g h = met-limited n m (leb 32 o.chain) (long i) _ _ (h (held (suc o.chain) []))

    module _ {Task : Type 0} (entry_of : Task → Entry) (body : Task → Prog R Task) (m : Mode) where
      after_one : (n : ℕ) (s : Trace R) → Finished (prefix [] [] (count 0 1) s) → taken_of (prefix [] [] (count 0 1) s) ≤ suc n → (Finished s × (taken_of s ≤ n))
      after_one n (tr cs done ms d) f l = (tt, omega arith)
      after_one n (tr cs (missing i) ms d) f l = (tt, omega arith)
      after_one n (tr cs (refused i) ms d) f l = (tt, omega arith)
      after_one n (tr cs (halted i) ms d) f l = (tt, omega arith)
      after_one n (tr cs unfinished ms d) f l = absurd f

      none_left : (s : Trace R) → taken_of (prefix [] [] (count 0 1) s) ≤ 0 → ⊥
      none_left (tr cs e ms d) l = omega arith

      enough : (d n : ℕ) (o : Held) (t : Task) → Met n (run same entry_of body m d o t) (run same entry_of body m n o t)
      unfolding run Met
      enough zero n o t f l = absurd f
      enough (suc d) zero o t f l = absurd (none_left (opening same m (entry_of t) o (λ q. exec m (λ u. run same entry_of body m d q u) (body t))) l)
      enough (suc d) (suc n) o t f l =
          let x = after_one n (opening same m (entry_of t) o (λ q. exec m (λ u. run same entry_of body m d q u) (body t))) f l in
          ap (λ (x : Trace R). prefix [] [] (count 0 1) x)
          (met-opening n m (entry_of t) o
          (λ q. exec m (λ u. run same entry_of body m d q u) (body t))
          (λ q. exec m (λ u. run same entry_of body m n q u) (body t))
          (λ q. met-exec n m (λ u. run same entry_of body m d q u) (λ u. run same entry_of body m n q u) (λ u. enough d n q u) (body t))
          x.0 x.1)

      -- A reading ends in x at some depth exactly if some number of steps, each taking up one index, finishes it in x.
      pub by-steps : (o : Held) (t : Task) (x : Trace R) → Finished x
          → ((d : ℕ) × (run same entry_of body m d o t ≡ x)) ↔ ((n : ℕ) × (run same entry_of body m n o t ≡ x) × (taken_of x ≡ n))
      unfolding Met
      by-steps o t x f = (
        (λ r. (taken_of x, enough r.0 (taken_of x) o t (subst Finished (sym r.1) f) (subst (λ (y : Trace R). taken_of y ≤ taken_of x) (sym r.1) (le_refl (taken_of x))) ∙ r.1, refl)),
        (λ r. (r.0, r.1)),
      )
