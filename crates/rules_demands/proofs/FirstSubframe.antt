-- Demand 3 rules out a program that packs the first subframe and fills the other seven with zeros: the frame of a legal record that fits and has a
-- code other than 0 later is not that of the record cut so. Assumes nothing.
use mathlib.Core.Path.{◌≡◌, refl, sym, ◌∙◌, ap}
use mathlib.Core.List.{List, [], ◌∷◌, ◌++◌, map, Memᴰ}
use mathlib.Core.Bool.{Bool, true, cond, ◌&&◌}
use Prim.Native.Nat.{ℕ, zero, suc, ◌+◌, ◌*◌, ◌≤◌, ◌<◌}
use native.Mathlib.Omega.{arith}
use borrow.Author.Tests.{ltb-true}
use lib.Dec.{T, leb, ltb, eqb, leb→le}
use lib.IntN.{ℤ, pos, nat_abs}
use lib.ListN.{length, get_or, take, length-append, get_or-map}
use lib.Seq.{get_or-take}
use Rattle.bits.specs.Bits.{bits}
use Rattle.bits.proofs.Numbers.{length-bits}
use Rattle.buffers.specs.Walk.{build}
use Rattle.buffers.proofs.Build.{build-at}
use Rattle.rules.specs.Format.{Each, each_bits, times}
use Rattle.rules.specs.Tables.{spectrum_bits, spectrum_value}
use Rattle.rules.specs.Signed.{held_z}
use Rattle.rules.specs.Layout.{frame_size, coded_count_at, part}
use Rattle.rules.specs.Code.{code_place, magnitude_bits, code_limit}
use Rattle.rules.specs.Record.{Rec, code_range, LegalCode, Legal, resolutions, codes_in, rec_of}
use Rattle.rules.specs.Fields.{small_bits, sign_bits, code_bits, fields}
use Rattle.rules.specs.Reading.{codes_to}
use Rattle.rules.specs.Frame.{field_end, frame_of}
use Rattle.rules.specs.Refusals.{delivered}
use Rattle.rules.specs.Writer.{WriterLent, lent_record, write_record}
use Rattle.rules.specs.declared.Layout.{Layout}
use Rattle.rules.proofs.Cuts.{by_order}
use Rattle.rules_formats.proofs.Numbers.{bool_case}
use Rattle.rules_formats.proofs.Prefix.{both}
use Rattle.rules_formats.proofs.Codes.{below_at, codes_are}
use Rattle.rules_demands.proofs.LegalRecords.{row_code, record_blank}
use Rattle.rules_demands.proofs.Demand3.{injective}
use Rattle.rules_demands.proofs.Deliveries.{writes, writes-legal, writes-frame}

-- a record whose last seven subframes hold zeros
abbrev pub silenced : List (List (List ℤ)) → List (List (List ℤ))
silenced [] = []
silenced (c ∷ cs) = c ∷ map (map (map (λ _. pos 0))) cs

abbrev pub first_only : Rec → Rec
first_only r = record { level = r.level; boundary = r.boundary; chans = r.chans; codes = silenced r.codes }

-- ---- 0 takes no more bits than another code

-- below resolution 8: a test of every word
abbrev longer : (r : ℕ) → List ℤ → Bool
longer r [] = true
longer r (c ∷ cs) = leb (length (small_bits r (pos 0))) (length (small_bits r c)) && longer r cs

longer-at : (r : ℕ) (c : ℤ) (cs : List ℤ) → T (longer r cs) → Memᴰ c cs → length (small_bits r (pos 0)) ≤ length (small_bits r c)
longer-at r c [] h x'' = elim x'' [ ]
longer-at r c (d ∷ cs) h (Memᴰ.head e) =
    rw e (leb→le _ _ (both (leb (length (small_bits r (pos 0))) (length (small_bits r d))) (longer r cs) h).0)
longer-at r c (d ∷ cs) h (Memᴰ.tail m) = longer-at r c cs (both (leb (length (small_bits r (pos 0))) (length (small_bits r d))) (longer r cs) h).1 m

tables_longer : (r : ℕ) → r < 8 → T (longer r (codes_to r))
unfolding small_bits code_place held_z spectrum_bits spectrum_value bits
tables_longer r h = below_at (λ r. longer r (codes_to r)) 8 tt r h

wide_longer : (k : ℕ) (c : ℤ) → length (bits k 0 ++ sign_bits (pos 0)) ≤ length (bits k (nat_abs c) ++ sign_bits c)
wide_longer k c = omega (arith, length-append (bits k 0) [], length-append (bits k (nat_abs c)) (sign_bits c), length-bits k 0, length-bits k (nat_abs c))

zero-short : (r : ℕ) (c : ℤ) → LegalCode r c → length (code_bits r (pos 0)) ≤ length (code_bits r c)
unfolding code_bits code_range
zero-short r c =
    bool_case (λ b. nat_abs c ≤ cond (ltb r 8) r (code_limit r)
    → length (cond b [] (cond (ltb r 8) (small_bits r (pos 0)) (bits (magnitude_bits r) 0 ++ sign_bits (pos 0))))
    ≤ length (cond b [] (cond (ltb r 8) (small_bits r c) (bits (magnitude_bits r) (nat_abs c) ++ sign_bits c)))) (eqb r 0)
    (λ _ _. omega arith)
    (λ _. bool_case (λ b. nat_abs c ≤ cond b r (code_limit r)
    → length (cond b (small_bits r (pos 0)) (bits (magnitude_bits r) 0 ++ sign_bits (pos 0)))
    ≤ length (cond b (small_bits r c) (bits (magnitude_bits r) (nat_abs c) ++ sign_bits c))) (ltb r 8)
    (λ t h. longer-at r c (codes_to r) (tables_longer r (ltb-true r 8 t)) ((codes_are r c).1 h))
    (λ _ _. wide_longer (magnitude_bits r) c))

-- ---- lists of legal values, each replaced by one that is legal and no longer

module _ {X A : Type 0} (L : X → A → Type 0) (w : X → A → List Bool) (f : A → A) where
  each-legal : ((x : X) (a : A) → L x a → L x (f a)) → (xs : List X) (ys : List A) → Each L xs ys → Each L xs (map f ys)
  each-legal h [] [] e = tt
  each-legal h [] (y ∷ ys) e = absurd e
  each-legal h (x ∷ xs) [] e = absurd e
  each-legal h (x ∷ xs) (y ∷ ys) e = (h x y e.0, each-legal h xs ys e.1)

  each-short : ((x : X) (a : A) → L x a → length (w x (f a)) ≤ length (w x a)) → (xs : List X) (ys : List A) → Each L xs ys
      → length (each_bits w xs (map f ys)) ≤ length (each_bits w xs ys)
  each-short h [] ys e = omega arith
  each-short h (x ∷ xs) [] e = absurd e
  each-short h (x ∷ xs) (y ∷ ys) e =
      omega (arith, h x y e.0, each-short h xs ys e.1, length-append (w x (f y)) (each_bits w xs (map f ys)), length-append (w x y) (each_bits w xs ys))

-- a code, a channel's codes and a subframe's as zeros
abbrev none : ℤ → ℤ
none c = pos 0

module _ (rss : List (List ℕ)) where
  abbrev LegalSubframe : List (List ℤ) → Type 0
  LegalSubframe = Each (Each LegalCode) rss

  abbrev subframe_bits : List (List ℤ) → List Bool
  subframe_bits = each_bits (each_bits code_bits) rss

  zeros-legal : (css : List (List ℤ)) → LegalSubframe css → LegalSubframe (map (map none) css)
  zeros-legal css = each-legal (Each LegalCode) (each_bits code_bits) (map none) (λ rs cs. each-legal LegalCode code_bits none (λ r c _. omega arith) rs cs) rss
      css

  zeros-short : (css : List (List ℤ)) → LegalSubframe css → length (subframe_bits (map (map none) css)) ≤ length (subframe_bits css)
  zeros-short css = each-short (Each LegalCode) (each_bits code_bits) (map none) (λ rs cs. each-short LegalCode code_bits none zero-short rs cs) rss css

  silenced-legal : (cs : List (List (List ℤ))) → Each (λ _. LegalSubframe) (times 8) cs → Each (λ _. LegalSubframe) (times 8) (silenced cs)
  silenced-legal [] h = h
  silenced-legal (c ∷ cs) h = (h.0, each-legal (λ _. LegalSubframe) (λ _. subframe_bits) (map (map none)) (λ _. zeros-legal) (times 7) cs h.1)

  silenced-short : (cs : List (List (List ℤ))) → Each (λ _. LegalSubframe) (times 8) cs
      → length (each_bits (λ _. subframe_bits) (times 8) (silenced cs)) ≤ length (each_bits (λ _. subframe_bits) (times 8) cs)
  silenced-short [] h = absurd h
  silenced-short (c ∷ cs) h =
      omega (
        arith,
        each-short (λ _. LegalSubframe) (λ _. subframe_bits) (map (map none)) (λ _. zeros-short) (times 7) cs h.1,
        length-append (subframe_bits c) (each_bits (λ _. subframe_bits) (times 7) cs),
        length-append (subframe_bits c) (each_bits (λ _. subframe_bits) (times 7) (map (map (map none)) cs)),
      )

-- ---- the cut record

module _ (l : Layout) (r : Rec) (h : Legal l r) where
  cut_legal : Legal l (first_only r)
  cut_legal = record { head = h.head; chans = h.chans; codes = silenced-legal (resolutions l r.level r.boundary r.chans) r.codes h.codes }

  cut_short : length (fields l (first_only r)) ≤ length (fields l r)
  unfolding fields
  cut_short = simp length-append (omega (arith, silenced-short (resolutions l r.level r.boundary r.chans) r.codes h.codes))

-- after the first subframe it holds zeros
silenced-at : (cs : List (List (List ℤ))) (s c b : ℕ) → 0 < s → get_or (get_or (get_or (silenced cs) s []) c []) b (pos 0) ≡ pos 0
silenced-at [] s c b h = refl
silenced-at (x ∷ cs) zero c b h = absurd (omega arith)
silenced-at (x ∷ cs) (suc s) c b h =
    rw (get_or-map (map (map none)) cs s [], get_or-map (map none) (get_or cs s []) c [])
    (get_or-map none (get_or (get_or cs s []) c []) b (pos 0))

-- For a legal record that fits and has a code other than 0 after the first subframe, the frame is not that of the cut record.
pub cut_differs : (l : Layout) (r : Rec) → Legal l r → length (fields l r) ≤ field_end l → (s c b : ℕ) → 0 < s
    → (get_or (get_or (get_or r.codes s []) c []) b (pos 0) ≡ pos 0 → ⊥) → frame_of l r ≡ frame_of l (first_only r) → ⊥
cut_differs l r h f s c b g n e =
    let same = injective l r (first_only r) h (cut_legal l r h) f (omega (arith, cut_short l r h)) e in
    n (ap (λ (x : Rec). get_or (get_or (get_or x.codes s []) c []) b (pos 0)) same ∙ silenced-at r.codes s c b g)

-- The same of a call of the record writer: what it delivers is not the frame of the cut record.
pub cut_not_written : (l : Layout) (t : WriterLent) (ns : List ℕ) → (write_record l t).outcome ≡ delivered ns → (c s b : ℕ) → c < l.channels → 0 < s → s < 8
    → b < 128
    → (get_or (part 1024 t.codes c) (s * 128 + b) (pos 0) ≡ pos 0 → ⊥) → take (frame_size l) (write_record l t).frame ≡ frame_of l (first_only (lent_record l t))
    → ⊥
unfolding lent_record rec_of
cut_not_written l t ns e c s b h o g k n q =
    let w = writes l t ns e in
    let row = part 1024 t.codes c in
    by_order b (coded_count_at l c)
    (λ lt. cut_differs l (lent_record l t) (writes-legal l t w) w.fits s c b o
    (λ z. n (sym (rw (
      build-at (λ j. build (codes_in l t.codes j) l.channels) 8 s [] g,
      build-at (codes_in l t.codes s) l.channels c [] h,
      get_or-take (coded_count_at l c) (part 128 row s) b (pos 0) lt,
    ) (row_code row s b k)) ∙ z))
    (sym (writes-frame l t w) ∙ q))
    (λ ge. n ((record_blank l t.level t.boundary t.factors t.side t.codes w.legal).codes c s b h g ge k))
