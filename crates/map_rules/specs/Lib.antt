pub mod RulePlaces
