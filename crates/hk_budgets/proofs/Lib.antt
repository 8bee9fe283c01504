mod Budgets
