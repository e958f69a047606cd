mod TakenPhases
