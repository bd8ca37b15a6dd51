-- The candidates of a PDU, and the trials of them in order (document 01, "The Network PDU").
use Rattle.std.specs.Prelude.{Bool, None, is_some, List, [], ℕ, min, eqb, get_or}
use Rattle.common.specs.Lists.{tab}
use Rattle.common.specs.Search.{picked}
use Rattle.common.specs.Trials.{Outcome, Succeeded, Failed, tries}
use Rattle.keys.specs.declared.NetworkKeys.{NetworkKeys}
use Rattle.network.specs.declared.trial.Found.{Found}
use Rattle.network.specs.Trial.{tried}

-- how many network keys can be held
abbrev pub network_key_places : ℕ
network_key_places = 4

-- where there is no key
abbrev pub no_key : NetworkKeys
no_key = record { nid = 0; encryption = []; privacy = [] }

-- the key at a place of the list
abbrev pub key_at : List NetworkKeys → ℕ → NetworkKeys
key_at keys i = get_or keys i no_key

-- the places of the keys with that NID, in their fixed order; at most four keys are held
unfoldable pub candidates : List NetworkKeys → ℕ → ℕ → List ℕ
candidates keys count nid = picked (λ i. eqb (key_at keys i).nid nid) (tab (λ i. i) (min count network_key_places))

-- whether the key at place i authenticates the PDU
unfoldable pub opens : List NetworkKeys → ℕ → List ℕ → ℕ → Bool
opens keys iv pdu i = is_some (tried (key_at keys i) i iv pdu)

-- what their trials say: the header under the key that authenticates, and the number of trials
abbrev pub found_by : List NetworkKeys → ℕ → List ℕ → Outcome ℕ → Found
found_by keys iv pdu (Succeeded i trials) = record { trials = trials; opened = tried (key_at keys i) i iv pdu }
found_by keys iv pdu (Failed trials) = record { trials = trials; opened = None }

-- they are tried one by one, stopping at the first that authenticates; the number of trials is that key's place among the candidates, from
-- 1, or their number when none opens it
unfoldable pub searched : List NetworkKeys → ℕ → ℕ → ℕ → List ℕ → Found
searched keys count nid iv pdu = found_by keys iv pdu (tries (opens keys iv pdu) (candidates keys count nid))
