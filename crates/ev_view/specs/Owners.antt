-- Who owns a station, and why: the best advert of each originator, in the order in which they are preferred.
use Rattle.std.specs.Prelude.{◌≡◌, ℕ, zero, suc, ◌==◌, if◌then◌else◌, List, [], ◌∷◌, ◌++◌, codes, decimal}
use Rattle.std.specs.Prelude.{Option, Some, None}
use Rattle.std.specs.List.{list_any}
use Rattle.ether_wire.specs.Addr.{addr_text}
use Rattle.route_wire.specs.declared.update.Register.{Register}
use Rattle.route_wire.specs.declared.update.Advert.{Advert}
use Rattle.route_wire.specs.declared.update.Content.TheVariants.{Advert as Advertised}
use Rattle.route_wire.specs.Fields.{Fields}
use Rattle.route_join.specs.Table.{Table}
use Rattle.route_join.specs.Updates.{updates_of}
use Rattle.route_join.specs.Owner.{advert_in, better_of, owner}
use Rattle.route_join.specs.Report.{spaced, mac_state, owner_name}

-- an advert, behind the register that has it
abbrev pub Offer : Type 0
Offer = Register × Advert

-- the update's advert, unless its originator is one of these
abbrev pub said_by : List ℕ → Fields → Option Advert
said_by told u = if list_any (λ o. o == u.register.originator) told then None else advert_in u.value.content

-- the best of these adverts and the best so far, but for those of these originators
abbrev pub best_but : List ℕ → List Fields → Option Offer → Option Offer
best_but told [] best = best
best_but told (u ∷ us) best = best_but told us (better_of u.register (said_by told u) best)

-- the best advert, if there is one, and then the others
abbrev pub with_others : (Offer → List Offer) → Option Offer → List Offer
with_others others None = []
with_others others (Some best) = best ∷ others best

-- The best advert, then the best one of the remaining originators, and so on, at most n of them.
unfoldable pub ranked : ℕ → List ℕ → List Fields → List Offer
ranked zero told us = []
ranked (suc n) told us =
    with_others (λ best. ranked n (told ++ best.0.originator ∷ []) us) (best_but told us None)

-- `E advert ADDR static N`, or `dynamic` in the place of `static`
abbrev pub offer_line : ℕ → Offer → List ℕ
offer_line number offer =
    decimal number ++ codes " advert " ++ addr_text offer.0.originator ++ spaced (mac_state (Advertised offer.1))
    ++ codes "\n"

abbrev pub offer_lines : ℕ → List Offer → List ℕ
offer_lines number [] = []
offer_lines number (offer ∷ more) = offer_line number offer ++ offer_lines number more

-- `E owner ADDR`, or `none` in the place of the address
abbrev pub owner_line : ℕ → Option ℕ → List ℕ
owner_line number o = decimal number ++ codes " owner " ++ owner_name o ++ codes "\n"

-- who owns the address, and then the adverts
abbrev pub owner_text : ℕ → Table → ℕ → ℕ → List ℕ
owner_text number t vni mac =
    owner_line number (owner t vni mac) ++ offer_lines number (ranked 64 [] (updates_of t vni mac))

-- whose the first one of the adverts is
abbrev pub leader : List Offer → Option ℕ
leader [] = None
leader (offer ∷ more) = Some offer.0.originator

-- the first advert in the answer is the owner's, and there is none if no edge owns the address
abbrev pub OwnerLeads : Type 0
OwnerLeads = (t : Table) (vni mac : ℕ) → leader (ranked 64 [] (updates_of t vni mac)) ≡ owner t vni mac
