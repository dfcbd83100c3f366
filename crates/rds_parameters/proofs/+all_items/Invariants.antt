use Rattle.rds_parameters.proofs.+all_items.Given as goal

-- proposed from what the function passes where it calls itself
abbrev pub decreases-all_items : goal.decreases-all_items
decreases-all_items l = l.left
