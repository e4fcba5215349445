-- Params with one number are one.
use Rattle.std.proofs.Common.{◌≡◌, ◌≤◌, refl, subst, arith}
use Rattle.ug_branch.specs.declared.params.Params.{Params}
use Rattle.ug_branch.specs.declared.params.Pick.{Pick}
use Rattle.ug_branch.specs.declared.params.Pick.TheVariants.{Place, Width}
use Rattle.ug_branch.specs.declared.params.End.{End}
use Rattle.ug_branch.specs.declared.params.End.TheVariants.{Lowest, Highest}
use Rattle.ug_branch.specs.declared.params.Half.{Half}
use Rattle.ug_branch.specs.declared.params.Half.TheVariants.{Lower, Upper}
use Rattle.ug_branch.specs.declared.params.Base.{Base}
use Rattle.ug_branch.specs.declared.params.Base.TheVariants.{Bound, Surrogate}
use Rattle.ug_branch.specs.Numbers.{number_of, pick_bit, end_bit, half_bit, base_bit}

pick_small : (p : Pick) → pick_bit p ≤ 1
pick_small Place = omega arith
pick_small Width = omega arith

end_small : (e : End) → end_bit e ≤ 1
end_small Lowest = omega arith
end_small Highest = omega arith

half_small : (h : Half) → half_bit h ≤ 1
half_small Lower = omega arith
half_small Upper = omega arith

base_small : (b : Base) → base_bit b ≤ 1
base_small Bound = omega arith
base_small Surrogate = omega arith

same_pick : (p q : Pick) → pick_bit p ≡ pick_bit q → p ≡ q
same_pick Place Place h = refl
same_pick Place Width h = absurd (omega (arith, h))
same_pick Width Place h = absurd (omega (arith, h))
same_pick Width Width h = refl

same_end : (p q : End) → end_bit p ≡ end_bit q → p ≡ q
same_end Lowest Lowest h = refl
same_end Lowest Highest h = absurd (omega (arith, h))
same_end Highest Lowest h = absurd (omega (arith, h))
same_end Highest Highest h = refl

same_half : (p q : Half) → half_bit p ≡ half_bit q → p ≡ q
same_half Lower Lower h = refl
same_half Lower Upper h = absurd (omega (arith, h))
same_half Upper Lower h = absurd (omega (arith, h))
same_half Upper Upper h = refl

same_base : (b c : Base) → base_bit b ≡ base_bit c → b ≡ c
same_base Bound Bound h = refl
same_base Bound Surrogate h = absurd (omega (arith, h))
same_base Surrogate Bound h = absurd (omega (arith, h))
same_base Surrogate Surrogate h = refl

same_params : (a b : Params) → a.pick ≡ b.pick → a.end ≡ b.end → a.half ≡ b.half → a.base ≡ b.base
    → a ≡ b
same_params a b p e h s =
    subst (λ (x : Pick). a ≡ record { pick = x; end = b.end; half = b.half; base = b.base }) p
    (subst (λ (x : End). a ≡ record { pick = a.pick; end = x; half = b.half; base = b.base }) e
    (subst (λ (x : Half). a ≡ record { pick = a.pick; end = a.end; half = x; base = b.base }) h
    (subst (λ (x : Base). a ≡ record { pick = a.pick; end = a.end; half = a.half; base = x }) s
    refl)))

-- params with one number are one
pub only_one : (a b : Params) → number_of a ≡ number_of b → a ≡ b
only_one a b h =
    let pa = pick_small a.pick in
    let pb = pick_small b.pick in
    let ea = end_small a.end in
    let eb = end_small b.end in
    let ha = half_small a.half in
    let hb = half_small b.half in
    let ba = base_small a.base in
    let bb = base_small b.base in
    let p : pick_bit a.pick ≡ pick_bit b.pick = omega arith in
    let e : end_bit a.end ≡ end_bit b.end = omega arith in
    let q : half_bit a.half ≡ half_bit b.half = omega arith in
    let s : base_bit a.base ≡ base_bit b.base = omega arith in
    same_params a b (same_pick a.pick b.pick p) (same_end a.end b.end e) (same_half a.half b.half q)
    (same_base a.base b.base s)
